use Rattle.st_player.specs.Playing.{page_script}
use Rattle.st_player.proofs.Pieces.{first_piece, piece_behind}
use Rattle.st_player.proofs.script.put_script.Goals as goal

pub returns : goal.returns
unfolding page_script
returns c =
    let is_1 = first_piece c.args.out.now c.word.new.self c.as_bytes.result.now _ c.in_ok-word.ensures.ok c.as_bytes.ensures.value in
    let is_2 = piece_behind c.args.out.now c.word.new.self c.word-2.new.self _ c.as_bytes-2.result.now _ is_1 c.in_ok-word-2.ensures.ok c.as_bytes-2.ensures.value in
    let is_3 = piece_behind c.args.out.now c.word-2.new.self c.word-3.new.self _ c.as_bytes-3.result.now _ is_2 c.in_ok-word-3.ensures.ok c.as_bytes-3.ensures.value in
    let is_4 = piece_behind c.args.out.now c.word-3.new.self c.word-4.new.self _ c.as_bytes-4.result.now _ is_3 c.in_ok-word-4.ensures.ok c.as_bytes-4.ensures.value in
    let is_5 = piece_behind c.args.out.now c.word-4.new.self c.word-5.new.self _ c.as_bytes-5.result.now _ is_4 c.in_ok-word-5.ensures.ok c.as_bytes-5.ensures.value in
    let is_6 = piece_behind c.args.out.now c.word-5.new.self c.word-6.new.self _ c.as_bytes-6.result.now _ is_5 c.in_ok-word-6.ensures.ok c.as_bytes-6.ensures.value in
    let is_7 = piece_behind c.args.out.now c.word-6.new.self c.word-7.new.self _ c.as_bytes-7.result.now _ is_6 c.in_ok-word-7.ensures.ok c.as_bytes-7.ensures.value in
    let is_8 = piece_behind c.args.out.now c.word-7.new.self c.word-8.new.self _ c.as_bytes-8.result.now _ is_7 c.in_ok-word-8.ensures.ok c.as_bytes-8.ensures.value in
    let is_9 = piece_behind c.args.out.now c.word-8.new.self c.word-9.new.self _ c.as_bytes-9.result.now _ is_8 c.in_ok-word-9.ensures.ok c.as_bytes-9.ensures.value in
    let is_10 = piece_behind c.args.out.now c.word-9.new.self c.word-10.new.self _ c.as_bytes-10.result.now _ is_9 c.in_ok-word-10.ensures.ok c.as_bytes-10.ensures.value in
    record { ok = piece_behind c.args.out.now c.word-10.new.self c.word-11.new.self _ c.as_bytes-11.result.now _ is_10 c.in_ok-word-11.ensures.ok c.as_bytes-11.ensures.value }

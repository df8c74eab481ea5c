use Rattle.st_player.specs.Playing.{page_head}
use Rattle.st_player.proofs.Pieces.{first_piece, piece_behind}
use Rattle.st_player.proofs.head.put_head.Goals as goal

pub returns : goal.returns
unfolding page_head
returns c =
    let is_1 = first_piece c.args.out.now c.word.new.self c.as_bytes.result.now _ c.in_ok-word.ensures.ok c.as_bytes.ensures.value in
    record { ok = piece_behind c.args.out.now c.word.new.self c.word-2.new.self _ c.as_bytes-2.result.now _ is_1 c.in_ok-word-2.ensures.ok c.as_bytes-2.ensures.value }

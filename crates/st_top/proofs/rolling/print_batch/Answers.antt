use Rattle.std.proofs.Common.{[], ◌∷◌, ◌∙◌, ◌++◌, List, ℕ, ap, codes, decimal, map}
use Rattle.st_text.specs.Words.{spaced, text_of}
use Rattle.st_text.proofs.PrintLemmas.{ok_by}
use Rattle.st_entry.specs.Words.{device_words}
use Rattle.st_roll.specs.declared.plan.Left.{Left}
use Rattle.st_top.specs.Rolling.{left_words}
use Rattle.st_top.proofs.TextLines.{line_added, two_added}
use Rattle.st_top.proofs.rolling.print_batch.Goals as goal

pub returns : goal.returns
returns c =
    let g = c.args.topo.now in
    let apps = c.args.apps.now in
    let n = c.args.number in
    let batch = c.args.batch.now in
    let line = line_added c.args.out.now c.begin_line.new.out c.print_devices.new.out c.word.new.self (codes "batch") (decimal n ∷ []) (device_words g batch.devices) c.in_ok-begin_line.ensures.ok
    (c.in_ok-print_devices.ensures ∙ ap (λ (ds : List ℕ). c.begin_line.new.out ++ spaced (device_words g ds)) c.as_slice.ensures) c.in_ok-word.ensures.ok in
    ok_by c.print_all_left.result (λ end. two_added c.args.out.now c.word.new.self c.print_all_left.new.out ((codes "batch" ∷ decimal n ∷ device_words g batch.devices) ∷ []) (map (left_words g apps n) batch.left) line
    (end ∙ ap (λ (left : List Left). c.word.new.self ++ text_of (map (left_words g apps n) left)) c.as_slice-2.ensures)) c.print_all_left.ensures

use Rattle.std.proofs.Common.{[], ◌∷◌, ◌∙◌, ◌++◌, List, ℕ, ap, codes, map}
use Rattle.st_text.specs.Words.{text_of}
use Rattle.st_text.proofs.PrintLemmas.{ok_by}
use Rattle.st_roll.specs.declared.plan.Batch.{Batch}
use Rattle.st_roll.specs.declared.plan.Stuck.{Stuck}
use Rattle.st_top.specs.Rolling.{batches_lines, same_words, stuck_words}
use Rattle.st_top.proofs.TextLines.{four_added, whole_added}
use Rattle.st_top.proofs.rolling.print_plan.Goals as goal

pub returns : goal.returns
returns c =
    let g = c.args.topo.now in
    let apps = c.args.apps.now in
    let roll = c.args.roll.now in
    ok_by c.print_all_same.result (λ end. four_added c.args.out.now c.print_line.new.out c.print_batches.new.out c.print_all_stuck.new.out c.print_all_same.new.out
    ((codes "group" ∷ g.name ∷ []) ∷ []) (batches_lines g apps 1 roll.batches) (map (stuck_words g apps) roll.stuck) (map (same_words g) roll.same)
    (whole_added c.args.out.now c.print_line.new.out (codes "group") (g.name ∷ []) (rw (c.bytes.ensures.bytes, c.name.ensures) at c.in_ok-print_line.ensures.ok))
    (c.in_ok-print_batches.ensures ∙ ap (λ (batches : List Batch). c.print_line.new.out ++ text_of (batches_lines g apps 1 batches)) c.as_slice.ensures)
    (c.in_ok-print_all_stuck.ensures ∙ ap (λ (stuck : List Stuck). c.print_batches.new.out ++ text_of (map (stuck_words g apps) stuck)) c.as_slice-2.ensures)
    (end ∙ ap (λ (same : List ℕ). c.print_all_stuck.new.out ++ text_of (map (same_words g) same)) c.as_slice-3.ensures)) c.print_all_same.ensures

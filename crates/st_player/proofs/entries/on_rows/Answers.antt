use Rattle.std.proofs.Common.{◌<◌, length, ap, sym, ◌∙◌, arith}
use Rattle.st_net.specs.InOrder.{entities_of}
use Rattle.st_player.specs.Entries.{has_row_on}
use Rattle.st_player.proofs.CutLemmas.{numbers_put, numbers_skip}
use Rattle.st_player.proofs.entries.on_rows.Goals as goal
use Rattle.st_player.proofs.entries.on_rows.Goals.{then-has_row_on+in_ok-push, else-has_row_on}

pub loop-place-preserved : goal.loop-place-preserved
loop-place-preserved c =
    let g = c.args.topo.now in
    let rows = c.args.rows.now in
    let low : c.loop-place.place < length (entities_of g) = omega (arith, c.loop-place-test.true, c.entity_count-place-end.ensures) in
    elim c.if-has_row_on.branch [
      | then-has_row_on+in_ok-push w ↦ ap (λ v. v.items) w.numbers-is ∙ numbers_put g (has_row_on rows) c.loop-place.place c.entity_at.result c.loop-place.numbers.items _ low c.entity_at.ensures.at (sym c.has_row_on.ensures ∙ w.if-has_row_on.true) c.loop-place.invariant w.in_ok-push.ensures.items
      | else-has_row_on w ↦ ap (λ v. v.items) w.numbers-is ∙ numbers_skip g (has_row_on rows) c.loop-place.place c.entity_at.result c.loop-place.numbers.items low c.entity_at.ensures.at (sym c.has_row_on.ensures ∙ w.if-has_row_on.false) c.loop-place.invariant
    ]

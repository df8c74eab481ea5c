use Rattle.std.proofs.Common.{take, get_or, sym, ◌∙◌}
use Rattle.std.proofs.lemmas.List.{take_more}
use Rattle.st_net.specs.Entities.{value_of}
use Rattle.st_overlay.proofs.RowSets.{no_row}
use Rattle.st_overlay.proofs.Alterations.{with_same, with_other}
use Rattle.st_world.proofs.world.acts.failed_vals.Goals as goal
use Rattle.st_world.proofs.world.acts.failed_vals.Goals.{then-is_same, else-is_same}

pub loop-row-preserved : goal.loop-row-preserved
loop-row-preserved c =
    let e = c.args.entity in
    let row = get_or c.args.rows.now c.loop-row.row-index no_row in
    rw (take_more c.args.rows.now c.loop-row.row-index no_row c.loop-row-test.true)
    (elim c.if-is_same.branch [
      | then-is_same w ↦ w.vals-is ∙ (w.with-vals.ensures ∙ with_same e c.args.vals c.loop-row.vals (λ at. value_of at c.args.vals) (take c.loop-row.row-index c.args.rows.now) row c.loop-row.invariant (sym c.is_same.ensures ∙ w.if-is_same.true))
      | else-is_same w ↦ w.vals-is ∙ with_other e c.args.vals c.loop-row.vals (λ at. value_of at c.args.vals) (take c.loop-row.row-index c.args.rows.now) row c.loop-row.invariant (sym c.is_same.ensures ∙ w.if-is_same.false)
    ])

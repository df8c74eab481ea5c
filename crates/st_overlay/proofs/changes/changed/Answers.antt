use Rattle.std.proofs.Common.{◌≡◌, take, get_or, arith, ◌∙◌}
use Rattle.std.proofs.lemmas.List.{take_more, take_all}
use Rattle.std.specs.Prelude.{true, false}
use Rattle.st_net.specs.Sets.{is_in}
use Rattle.st_overlay.specs.Values.{value_in}
use Rattle.st_overlay.proofs.RowSets.{no_row}
use Rattle.st_overlay.proofs.Alterations.{altered_among_all, alters_by_vals, altered_next, unaltered_next}
use Rattle.st_net.proofs.SetLaws.{marks_kept}
use Rattle.st_overlay.proofs.changes.changed.Goals as goal
use Rattle.st_overlay.proofs.changes.changed.Goals.{then-not-is_same, else-not-is_same}

pub loop-row-preserved : goal.loop-row-preserved
loop-row-preserved c =
    let row = get_or c.args.rows.now c.loop-row.row-index no_row in
    let g = c.args.topo.now in
    let t = c.args.table.now in
    let before = take c.loop-row.row-index c.args.rows.now in
    rw (take_more c.args.rows.now c.loop-row.row-index no_row c.loop-row-test.true)
    (elim c.if-not-is_same.branch [
      | then-not-is_same w ↦
          let altered = alters_by_vals g t c.args.rows.now row.entity c.get_with.result c.get.result c.is_same.result false c.requires.of c.get_with.ensures c.get.ensures c.is_same.ensures w.if-not-is_same.true in
          rw w.set-is (record {
            of = marks_kept g c.loop-row.set w.put.new.self c.loop-row.invariant.of w.put.ensures.same;
            altered = altered_next g (value_in t) c.args.rows.now before row (is_in c.loop-row.set) (is_in w.put.new.self) c.loop-row.invariant.altered w.put.ensures.members altered;
          })
      | else-not-is_same w ↦
          let unaltered = alters_by_vals g t c.args.rows.now row.entity c.get_with.result c.get.result c.is_same.result true c.requires.of c.get_with.ensures c.get.ensures c.is_same.ensures w.if-not-is_same.false in
          rw w.set-is (record {
            of = c.loop-row.invariant.of;
            altered = unaltered_next g (value_in t) c.args.rows.now before row (is_in c.loop-row.set) c.loop-row.invariant.altered unaltered;
          })
    ])

pub returns-clause-altered : goal.returns-clause-altered
returns-clause-altered c =
    let whole : take c.loop-row.row-index c.args.rows.now ≡ c.args.rows.now = take_all _ _ (omega arith) in
    (rw whole at c.loop-row.invariant.altered) ∙ altered_among_all c.args.topo.now (value_in c.args.table.now) c.args.rows.now

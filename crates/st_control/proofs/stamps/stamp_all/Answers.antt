use Rattle.std.proofs.Common.{sym, ◌∙◌, arith}
use Rattle.st_net.specs.Sets.{is_in}
use Rattle.st_net.specs.InOrder.{stamp_in}
use Rattle.st_net.proofs.EntityOrder.{entities_count, place_at}
use Rattle.st_net.proofs.EntityLoops.{set_next, leave_next}
use Rattle.st_control.proofs.StampLaws.{stamp_put, stamped_all}
use Rattle.st_control.proofs.stamps.stamp_all.Goals as goal
use Rattle.st_control.proofs.stamps.stamp_all.Goals.{then-has, else-has}

pub bounds-stamps-place : goal.bounds-stamps-place
bounds-stamps-place c = let all = entities_count c.args.topo.now in let low = c.loop-place-test.true in omega (arith, all, low)

pub loop-place-preserved : goal.loop-place-preserved
loop-place-preserved c =
    let g = c.args.topo.now in
    let at = c.entity_at.result in
    let low = c.loop-place-test.true in
    let stands = c.entity_at.ensures in
    let old = stamp_in g c.args.stamps.now in
    let was = stamp_in g c.loop-place.stamps in
    elim c.if-has.branch [
      | then-has w ↦ rw w.stamps-is (
          set_next g c.loop-place.place at (is_in c.args.set.now) c.args.stamp old was _ (omega (arith, low)) stands.of stands.at (sym c.has.ensures ∙ w.if-has.true)
          (stamp_put g c.loop-place.stamps c.loop-place.place at c.args.stamp stands.of (place_at g c.loop-place.place at (omega (arith, low)) stands.at) (omega arith))
          c.loop-place.invariant
          )
      | else-has w ↦ rw w.stamps-is (
          leave_next g c.loop-place.place at (is_in c.args.set.now) c.args.stamp old was (omega (arith, low)) stands.of stands.at (sym c.has.ensures ∙ w.if-has.false) c.loop-place.invariant
          )
    ]

pub returns-clause-stamps : goal.returns-clause-stamps
returns-clause-stamps c = stamped_all c.args.topo.now c.args.set.now c.loop-place.place c.args.stamp _ _ c.requires.set (omega arith) c.loop-place.invariant

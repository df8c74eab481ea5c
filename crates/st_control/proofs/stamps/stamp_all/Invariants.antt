use Rattle.st_net.specs.Sets.{is_in}
use Rattle.st_net.specs.InOrder.{stamp_in}
use Rattle.st_net.proofs.EntityLoops.{AreSetBefore}
use Rattle.st_control.proofs.stamps.stamp_all.Given as goal

-- of the entities so far those of the set are stamped
abbrev pub invariant-loop-place : goal.invariant-loop-place
invariant-loop-place l = AreSetBefore l.topo l.place (is_in l.set) l.stamp (stamp_in l.topo l.fn.stamps) (stamp_in l.topo l.stamps)

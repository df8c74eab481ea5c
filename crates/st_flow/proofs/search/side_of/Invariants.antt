use Rattle.st_flow.specs.Search.{reached}
use Rattle.st_flow.proofs.Side.{IsSideBelow}
use Rattle.st_flow.proofs.search.side_of.Given as goal

abbrev pub invariant-loop-x : goal.invariant-loop-x
invariant-loop-x l = IsSideBelow (reached l.marks) l.x l.side.items

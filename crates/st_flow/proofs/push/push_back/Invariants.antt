use Rattle.st_flow.specs.Residual.{turned}
use Rattle.st_flow.specs.Search.{mark_at}
use Rattle.st_flow.proofs.Pushing.{IsPushing}
use Rattle.st_flow.proofs.push.push_back.Given as goal

abbrev pub invariant-loop-y : goal.invariant-loop-y
invariant-loop-y l = IsPushing l.edges (turned l.direction l.fn.amounts) (turned l.direction l.amounts) l.marks l.end l.y l.more

abbrev pub decreases-loop-y : goal.decreases-loop-y
decreases-loop-y l = (mark_at l.marks l.y).level

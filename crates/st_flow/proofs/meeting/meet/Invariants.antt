use Rattle.std.proofs.Common.{◌+◌, ◌-◌}
use Rattle.st_flow.specs.Search.{IsFurther, IsRound}
use Rattle.st_flow.proofs.meeting.meet.Given as goal

abbrev pub invariant-steps : goal.invariant-steps
invariant-steps l = record {
  near : IsFurther l.fn.near l.near;
  far : IsFurther l.fn.far l.far;
  round : IsRound l.g l.amounts l.near l.far;
}

abbrev pub decreases-steps : goal.decreases-steps
decreases-steps l = (l.g.nodes - l.near.next) + (l.g.nodes - l.far.next)

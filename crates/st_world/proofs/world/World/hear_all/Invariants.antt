use Rattle.st_event.specs.declared.event.Event.TheVariants.{Hear}
use Rattle.st_world.proofs.RoundLaws.{IsArriving}
use Rattle.st_world.proofs.world.World.hear_all.Given as goal

-- the hearings that are left end as all of them from the start
abbrev pub invariant-loop-report : goal.invariant-loop-report
invariant-loop-report l = IsArriving Hear l.fn.self l.self l.reports l.report-index

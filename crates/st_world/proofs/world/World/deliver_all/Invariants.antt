use Rattle.st_event.specs.declared.event.Event.TheVariants.{Deliver}
use Rattle.st_world.proofs.RoundLaws.{IsArriving}
use Rattle.st_world.proofs.world.World.deliver_all.Given as goal

-- the deliveries that are left end as all of them from the start
abbrev pub invariant-loop-command : goal.invariant-loop-command
invariant-loop-command l = IsArriving Deliver l.fn.self l.self l.commands l.command-index

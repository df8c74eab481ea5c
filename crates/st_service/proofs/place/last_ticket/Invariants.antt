use Rattle.std.proofs.Common.{◌≡◌, take}
use Rattle.st_service.specs.Tickets.{last_ticket}
use Rattle.st_service.proofs.place.last_ticket.Given as goal

abbrev pub invariant-loop-entry : goal.invariant-loop-entry
invariant-loop-entry l = l.last ≡ last_ticket (take l.entry-index l.entries)

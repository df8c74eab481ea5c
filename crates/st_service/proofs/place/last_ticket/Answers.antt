use Rattle.std.proofs.Common.{◌∙◌, ap}
use Rattle.std.specs.Option.{option_or}
use Rattle.st_service.proofs.TicketLaws.{last_next}
use Rattle.st_service.proofs.place.last_ticket.Goals as goal

pub loop-entry-preserved : goal.loop-entry-preserved
loop-entry-preserved c = last_next c.args.entries.now c.loop-entry.entry-index c.entry-item.result c.loop-entry.last c.or-last.result c.loop-entry-test.true c.entry-item.is c.loop-entry.invariant (c.or-last.ensures ∙ ap (λ o. option_or o c.loop-entry.last) c.ticket_of.ensures)

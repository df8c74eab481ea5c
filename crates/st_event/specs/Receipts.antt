-- What a reply gives: a ticket where it queues a proposal, a receipt where it decides one, rows where it withdraws them.
use Rattle.std.specs.Prelude.{ℕ, List, Option, Some, None}
use Rattle.st_net.specs.declared.entity.Row.{Row}
use Rattle.st_event.specs.declared.reply.Receipt.{Receipt}
use Rattle.st_event.specs.declared.reply.Reply.{Reply}
use Rattle.st_event.specs.declared.reply.Reply.TheVariants.{Queued, Decided, Withdrawn}

abbrev pub ticket_given : Reply → Option ℕ
ticket_given (Queued ticket) = Some ticket
ticket_given _ = None

abbrev pub receipt_given : Reply → Option Receipt
receipt_given (Decided receipt) = Some receipt
receipt_given _ = None

abbrev pub rows_withdrawn : Reply → Option (List Row)
rows_withdrawn (Withdrawn version rows) = Some rows
rows_withdrawn _ = None

-- The tickets that a pass was given, by its front of a journal and its list of places there.
use Rattle.std.specs.Prelude.{ℕ, List, [], ◌∷◌, Option, Some, None, slice_get}
use Rattle.std.specs.Option.{option_or}
use Rattle.st_event.specs.declared.journal.Entry.{Entry}
use Rattle.st_event.specs.declared.reply.Reply.{Reply}
use Rattle.st_event.specs.Receipts.{ticket_given}
use Rattle.st_service.specs.Made.{Made}

-- the ticket that a reply gives to a proposal
abbrev pub ticket_in : Reply → Option ℕ
ticket_in reply = ticket_given reply

abbrev pub ticket_of : Option Made → Option ℕ
ticket_of (Some m) = ticket_in m.entry.reply
ticket_of None = None

-- the last ticket that these entries give
abbrev pub last_ticket : List Entry → Option ℕ
last_ticket [] = None
last_ticket (e ∷ es) = option_or (last_ticket es) (ticket_in e.reply)

-- the ticket of the last proposal among the entries at these places
abbrev pub latest_in : List Made → List ℕ → Option ℕ
latest_in front [] = None
latest_in front (n ∷ ns) = option_or (latest_in front ns) (ticket_of (slice_get front n))

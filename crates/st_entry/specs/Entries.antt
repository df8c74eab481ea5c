-- The words of an entry of a journal: its number, its event, a colon and its reply.
use Rattle.std.specs.Prelude.{ℕ, List, [], ◌∷◌, ◌++◌, decimal}
use Rattle.st_net.specs.Groups.{Group, name_of}
use Rattle.st_event.specs.declared.event.Event.{Event}
use Rattle.st_event.specs.declared.event.Event.TheVariants.{Submit, Check, Lock, Unlock, Send, Deliver, Finish, Report, Hear, Fail, Withdraw}
use Rattle.st_event.specs.declared.reply.Reply.{Reply}
use Rattle.st_event.specs.declared.reply.Reply.TheVariants.{Queued, Full, Decided, Idle, Granted, Held, Released, NotYours, Sent, Settled, Blocked, Begun, Stale, NoSuch, Done, NotBusy, Reported, Taken, Old, Changed, Withdrawn, Kept}
use Rattle.st_event.specs.declared.journal.Entry.{Entry}
use Rattle.st_token.specs.Words.{prio_word}
use Rattle.st_entry.specs.declared.keyword.EventWord.TheVariants as events
use Rattle.st_entry.specs.declared.keyword.ReplyWord.TheVariants as replies
use Rattle.st_entry.specs.Keywords.{event_word, reply_word, reply_mark}
use Rattle.st_entry.specs.Words.{Words, app_word, holder_word, assignment, assignment_words, value_words}
use Rattle.st_entry.specs.Causes.{verdict_words}

-- a failure names every variable of its entity
abbrev pub event_words : Group → List (List ℕ) → Event → Words
event_words g apps (Submit app rows) = event_word events.Submit ∷ app_word apps app ∷ assignment_words g rows
event_words g apps Check = event_word events.Check ∷ []
event_words g apps (Lock app e prio) = event_word events.Lock ∷ app_word apps app ∷ name_of g e ∷ prio_word prio ∷ []
event_words g apps (Unlock app e prio) = event_word events.Unlock ∷ app_word apps app ∷ name_of g e ∷ prio_word prio ∷ []
event_words g apps (Send e) = event_word events.Send ∷ name_of g e ∷ []
event_words g apps (Deliver command) = event_word events.Deliver ∷ decimal command ∷ []
event_words g apps (Finish e) = event_word events.Finish ∷ name_of g e ∷ []
event_words g apps (Report e) = event_word events.Report ∷ name_of g e ∷ []
event_words g apps (Hear report) = event_word events.Hear ∷ decimal report ∷ []
event_words g apps (Fail e vals health) = event_word events.Fail ∷ name_of g e ∷ decimal health ∷ value_words e vals
event_words g apps (Withdraw e) = event_word events.Withdraw ∷ name_of g e ∷ []

-- the number of the entry that decides a ticket is that of its own line
abbrev pub reply_words : Group → List (List ℕ) → Reply → Words
reply_words g apps (Queued ticket) = reply_word replies.Queued ∷ decimal ticket ∷ []
reply_words g apps (Full pending) = reply_word replies.Full ∷ decimal pending ∷ []
reply_words g apps (Decided receipt) = reply_word replies.Receipt ∷ decimal receipt.ticket ∷ verdict_words g apps receipt.verdict
reply_words g apps Idle = reply_word replies.Idle ∷ []
reply_words g apps Granted = reply_word replies.Granted ∷ []
reply_words g apps (Held holder) = reply_word replies.Held ∷ app_word apps holder ∷ []
reply_words g apps Released = reply_word replies.Released ∷ []
reply_words g apps (NotYours holder) = reply_word replies.NotYours ∷ holder_word apps holder ∷ []
reply_words g apps (Sent command) = reply_word replies.Sent ∷ decimal command ∷ []
reply_words g apps Settled = reply_word replies.Settled ∷ []
reply_words g apps (Blocked row) = reply_word replies.Blocked ∷ assignment g row ∷ []
reply_words g apps Begun = reply_word replies.Begun ∷ []
reply_words g apps (Stale fence) = reply_word replies.Stale ∷ decimal fence ∷ []
reply_words g apps (NoSuch sent) = reply_word replies.NoSuch ∷ decimal sent ∷ []
reply_words g apps Done = reply_word replies.Done ∷ []
reply_words g apps NotBusy = reply_word replies.NotBusy ∷ []
reply_words g apps (Reported report) = reply_word replies.Reported ∷ decimal report ∷ []
reply_words g apps Taken = reply_word replies.Taken ∷ []
reply_words g apps (Old kept) = reply_word replies.Old ∷ decimal kept ∷ []
reply_words g apps Changed = reply_word replies.Changed ∷ []
reply_words g apps (Withdrawn version rows) = reply_word replies.Withdrawn ∷ decimal version ∷ assignment_words g rows
reply_words g apps Kept = reply_word replies.Kept ∷ []

-- the entry of a number: the first of a journal has number 1
abbrev pub entry_words : Group → List (List ℕ) → ℕ → Entry → Words
entry_words g apps n entry = decimal n ∷ (event_words g apps entry.event ++ reply_mark ∷ reply_words g apps entry.reply)

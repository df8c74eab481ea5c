-- What an application's script asks of a group by requests, and what the group's journal has of them. A journal stands here with its oldest entry
-- first, and the commands of a script with the newest first: `act ∷ before` is a command behind those before it.
use Rattle.std.specs.Prelude.{ℕ, zero, suc, ◌+◌, ◌==◌, Bool, true, false, List, [], ◌∷◌, length, map, Option, Some, None, is_some, if◌then◌else◌}
use Rattle.std.specs.List.{filter, filter_map}
use Rattle.st_net.specs.declared.entity.AppId.{AppId}
use Rattle.st_net.specs.Numbered.{nth}
use Rattle.st_event.specs.declared.act.Act.{Act}
use Rattle.st_event.specs.declared.act.Act.TheVariants.{Propose, Await, Settle, Lock, Unlock, Read, ReadAt, Fail, Poll, Span}
use Rattle.st_event.specs.declared.event.Event.{Event}
use Rattle.st_event.specs.declared.event.Event.TheVariants.{Submit, Lock as lock_event, Unlock as unlock_event}
use Rattle.st_event.specs.declared.journal.Entry.{Entry}
use Rattle.st_event.specs.declared.reply.Reply.{Reply}
use Rattle.st_event.specs.Events.{is_request_of}
use Rattle.st_event.specs.Receipts.{ticket_given, receipt_given}
use Rattle.st_world.specs.Acts.{group_number}

-- the request that a command makes, if it makes one
abbrev pub request_by : AppId → Act → Option Event
request_by app (Propose n rows) = Some (Submit app rows)
request_by app (Lock n entity prio) = Some (lock_event app entity prio)
request_by app (Unlock n entity prio) = Some (unlock_event app entity prio)
request_by app (Await n) = None
request_by app (Settle n rounds) = None
request_by app (Read n entity var) = None
request_by app (ReadAt n version entity var) = None
request_by app (Fail n entity health rows) = None
request_by app (Poll n entity) = None
request_by app (Span first first_rows second second_rows) = None

-- the commands on group n
abbrev pub acts_on : ℕ → List Act → List Act
acts_on n acts = filter (λ act. group_number act == n) acts

-- the requests that commands make of group n
abbrev pub requests_by : AppId → ℕ → List Act → List Event
requests_by app n acts = filter_map (request_by app) (acts_on n acts)

-- whether the entry's event is a request of this application
abbrev pub is_asked_by : AppId → Entry → Bool
is_asked_by app entry = is_request_of app entry.event

-- the requests of an application in a journal
abbrev pub requests_in : AppId → List Entry → List Event
requests_in app entries = map (λ e. e.event) (filter (is_asked_by app) entries)

abbrev pub is_submit : Event → Bool
is_submit (Submit by rows) = true
is_submit _ = false

-- the replies to an application's proposals in a journal
abbrev pub answers_in : AppId → List Entry → List Reply
answers_in app entries = map (λ e. e.reply) (filter (λ e. is_submit e.event) (filter (is_asked_by app) entries))

abbrev pub is_proposal : Act → Bool
is_proposal (Propose n rows) = true
is_proposal _ = false

abbrev pub is_await : Act → Bool
is_await (Await n) = true
is_await _ = false

abbrev pub ticket_in : Option Reply → Option ℕ
ticket_in None = None
ticket_in (Some reply) = ticket_given reply

-- the ticket of an application's latest proposal to group n among these commands, as the group's journal tells it
abbrev pub latest_ticket : AppId → ℕ → List Entry → List Act → Option ℕ
latest_ticket app n entries acts = ticket_in (nth (answers_in app entries) (length (filter is_proposal (acts_on n acts))))

abbrev pub with_ticket : Option ℕ → List ℕ → List ℕ
with_ticket None tickets = tickets
with_ticket (Some ticket) tickets = ticket ∷ tickets

-- the tickets for which these commands wait on group n: at each await that of the latest proposal before it
abbrev pub awaited_by : AppId → ℕ → List Entry → List Act → List ℕ
awaited_by app n entries [] = []
awaited_by app n entries (act ∷ before) =
    if is_await act then (if group_number act == n then with_ticket (latest_ticket app n entries before) (awaited_by app n entries before) else awaited_by app n entries before) else awaited_by app n entries before

-- the number of the m-th entry of a kind, from 1; beyond the last of them, one that no entry has
abbrev pub number_of : (Entry → Bool) → ℕ → List Entry → ℕ
number_of kind zero entries = 0
number_of kind (suc m) [] = 1
number_of kind (suc m) (e ∷ es) = 1 + (if kind e then number_of kind m es else number_of kind (suc m) es)

abbrev pub decides_one : Reply → Bool
decides_one reply = is_some (receipt_given reply)

-- the number of the entry that decides a ticket, and that of an application's m-th request
abbrev pub decision_of : ℕ → List Entry → ℕ
decision_of ticket entries = number_of (λ e. decides_one e.reply) ticket entries

abbrev pub request_number : AppId → ℕ → List Entry → ℕ
request_number app m entries = number_of (is_asked_by app) m entries

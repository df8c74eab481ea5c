-- What it is that scripts were carried out on group n: by its journal, and by what their applications logged. The order in which the commands of
-- different applications came is free.
use Rattle.std.specs.Prelude.{ℕ, suc, ◌-◌, ◌≡◌, ◌⊎◌, ◌<◌, Bool, true, false, List, [], ◌∷◌, All, max, map, length, drop, reverse, sum_by, count_by, is_some}
use Rattle.std.specs.List.{filter}
use Rattle.st_net.specs.declared.entity.AppId.{AppId}
use Rattle.st_net.specs.declared.entity.Entity.{Entity}
use Rattle.st_net.specs.Entities.{is_same_entity}
use Rattle.st_net.specs.Groups.{IsEntityOf}
use Rattle.st_event.specs.declared.act.Act.{Act}
use Rattle.st_event.specs.declared.act.Act.TheVariants.{Propose, Await, Settle, Lock, Unlock, Read, ReadAt, Fail, Poll, Span}
use Rattle.st_event.specs.declared.act.LogEntry.{LogEntry}
use Rattle.st_event.specs.declared.journal.Entry.{Entry}
use Rattle.st_event.specs.History.{History}
use Rattle.st_event.specs.Observed.{is_settled}
use Rattle.st_event.specs.Proposals.{is_queued, pending}
use Rattle.st_wire.specs.declared.line.WireLine.{WireLine}
use Rattle.st_world.specs.Acts.{group_number}
use Rattle.st_world.specs.Rounds.{course_from, poll, turn}
use Rattle.st_world.specs.World.{IsBeginning}
use Rattle.st_run.specs.Failures.{IsFailureBy, failures_in}
use Rattle.st_run.specs.Logs.{EachRead, HasSeen, IsLineOf, IsTrueOf, NeverLess, accepted_up_to}
use Rattle.st_run.specs.Requests.{acts_on, answers_in, awaited_by, decision_of, request_by, request_number, requests_by, requests_in}
use Rattle.st_run.specs.Stands.{IsInterleaving, Stand}

-- the entries of a journal, the oldest first
abbrev pub entries_of : History → List Entry
entries_of h = reverse h.past

-- each command, of which P holds with the commands before it. The commands stand newest first
abbrev pub EachAct : (List Act → Act → Type 0) → List Act → Type 0
EachAct P [] = Unit {0}
EachAct P (act ∷ before) = P before act × EachAct P before

-- the requests that name an application are its commands', in order, each once
abbrev pub AsksAll : AppId → ℕ → List Act → History → Type 0
AsksAll app n acts h = requests_in app (entries_of h) ≡ requests_by app n acts

-- each of its proposals was given a ticket
abbrev pub HasTickets : AppId → History → Type 0
HasTickets app h = All (λ reply. is_queued reply ≡ true) (answers_in app (entries_of h))

-- the request of a command stands behind the decision of each ticket that was awaited before it
abbrev pub IsInTime : AppId → ℕ → History → List Act → Act → Type 0
IsInTime app n h before act =
    is_some (request_by app act) ≡ true → group_number act ≡ n →
    All (λ ticket. decision_of ticket (entries_of h) < request_number app (suc (length (requests_by app n (reverse before)))) (entries_of h)) (awaited_by app n (entries_of h) before)

abbrev pub AsksInTime : AppId → ℕ → List Act → History → Type 0
AsksInTime app n acts h = EachAct (IsInTime app n h) (reverse acts)

abbrev pub greatest : List ℕ → ℕ
greatest [] = 0
greatest (n ∷ ns) = max n (greatest ns)

-- the least number of entries, from the first, among which are the requests of these commands and the decisions that they await
abbrev pub done_by : AppId → ℕ → List Entry → List Act → ℕ
done_by app n entries before =
    max (request_number app (length (requests_by app n (reverse before))) entries) (greatest (map (λ ticket. decision_of ticket entries) (awaited_by app n entries before)))

-- the journal of the first so many entries
abbrev pub first_of : ℕ → List Entry → List Entry
first_of count past = drop (length past - count) past

-- at a moment behind this beginning of the journal the entity was settled
pub record WasSettled (h : History) (from : List Entry) (e : Entity) : Type 0 where
  pub moment : List Entry
  pub behind : IsBeginning from moment
  pub within : IsBeginning moment h.past
  pub settled : is_settled h.group moment e ≡ true

-- at least so many turns of the entity stand behind this beginning
abbrev pub HasTurns : History → List WireLine → List Entry → Entity → ℕ → Type 0
HasTurns h lines from e count = Stand (λ past. turn h.group lines (course_from past) e) count from h.past

-- a settle settles each entity, or gives it all its turns
abbrev pub IsSettledIn : History → List WireLine → List Entry → ℕ → Type 0
IsSettledIn h lines from rounds = (e : Entity) → IsEntityOf h.group e → WasSettled h from e ⊎ HasTurns h lines from e rounds

abbrev pub Settles : AppId → ℕ → History → List WireLine → List Act → Act → Type 0
Settles app n h lines before (Settle m rounds) = m ≡ n → IsSettledIn h lines (first_of (done_by app n (entries_of h) before) h.past) rounds
Settles app n h lines before (Propose m rows) = Unit {0}
Settles app n h lines before (Await m) = Unit {0}
Settles app n h lines before (Lock m entity prio) = Unit {0}
Settles app n h lines before (Unlock m entity prio) = Unit {0}
Settles app n h lines before (Read m entity var) = Unit {0}
Settles app n h lines before (ReadAt m version entity var) = Unit {0}
Settles app n h lines before (Fail m entity health rows) = Unit {0}
Settles app n h lines before (Poll m entity) = Unit {0}
Settles app n h lines before (Span first first_rows second second_rows) = Unit {0}

abbrev pub SettlesAll : AppId → ℕ → List Act → History → List WireLine → Type 0
SettlesAll app n acts h lines = EachAct (Settles app n h lines) (reverse acts)

-- the log has a line for each command that reads, in order, and no other
abbrev pub LogsAll : List Act → List LogEntry → Type 0
LogsAll acts log = EachRead (λ before act line. IsLineOf act line) (reverse acts) (reverse log)

-- along the log no less is seen of a group
abbrev pub SeesNoLess : List LogEntry → Type 0
SeesNoLess log = NeverLess (reverse log)

-- what was seen of group n is true of its journal
abbrev pub SeesTruly : ℕ → List LogEntry → History → Type 0
SeesTruly n log h = All (λ line. line.group ≡ n → IsTrueOf h line.entity line.var line.saw) log

-- a line on group n has seen what was accepted up to each ticket that was awaited before
abbrev pub SeesAwaited : AppId → ℕ → List Act → List LogEntry → History → Type 0
SeesAwaited app n acts log h =
    EachRead (λ before act line. line.group ≡ n → All (λ ticket. HasSeen line.saw (accepted_up_to ticket h.past)) (awaited_by app n (entries_of h) before)) (reverse acts) (reverse log)

abbrev pub is_failing : Act → Bool
is_failing (Fail n entity health rows) = true
is_failing _ = false

-- the failures of a group are those that the scripts' commands ask for, those of each script in its order
abbrev pub FailsAsAsked : List (List Act) → ℕ → History → Type 0
FailsAsAsked scripts n h = IsInterleaving IsFailureBy (failures_in h.group h.past) (map (λ acts. filter is_failing (acts_on n acts)) scripts)

abbrev pub is_poll_of : Entity → Act → Bool
is_poll_of e (Poll n entity) = is_same_entity entity e
is_poll_of e _ = false

-- for each entity at least as many reports, each with what was to be heard at its turn, as there are polls of it in all scripts
abbrev pub PollsAll : List (List Act) → ℕ → History → List WireLine → Type 0
PollsAll scripts n h lines = (e : Entity) → Stand (λ past. poll h.group lines (course_from past) e) (sum_by (λ acts. count_by (is_poll_of e) (acts_on n acts)) scripts) [] h.past

-- an application's script was carried out on group n
pub record IsDoneBy (app : AppId) (acts : List Act) (log : List LogEntry) (n : ℕ) (h : History) (lines : List WireLine) : Type 0 where
  pub asked : AsksAll app n acts h
  pub given : HasTickets app h
  pub timely : AsksInTime app n acts h
  pub settled : SettlesAll app n acts h lines
  pub truly : SeesTruly n log h
  pub awaited : SeesAwaited app n acts log h

-- all scripts were carried out on group n, and nothing is pending there
pub record IsDoneOn (scripts : List (List Act)) (n : ℕ) (h : History) (lines : List WireLine) : Type 0 where
  pub decided : pending h.past ≡ []
  pub failed : FailsAsAsked scripts n h
  pub polled : PollsAll scripts n h lines

-- a log has what a script reads
pub record IsLogged (acts : List Act) (log : List LogEntry) : Type 0 where
  pub each : LogsAll acts log
  pub no_less : SeesNoLess log

-- What an act of an application leaves with its pass.
use Rattle.std.specs.Prelude.{ℕ, ◌≡◌, ◌<◌, List, ◌++◌, ◌∷◌, [], length}
use mathlib.Core.List.{IsPrefix}
use Rattle.st_net.specs.Groups.{Group}
use Rattle.st_event.specs.declared.act.Act.{Act}
use Rattle.st_event.specs.declared.act.Act.TheVariants.{Propose, Await, Settle, Lock, Unlock, Read, ReadAt, Fail, Poll, Span}
use Rattle.st_event.specs.declared.journal.TheConstants.{MAX_ENTRIES}
use Rattle.st_wire.specs.declared.line.WireLine.{WireLine}
use Rattle.st_world.specs.Acts.{ActFits, course_of, group_number, seen_at}
use Rattle.st_world.specs.Rounds.{course_from}
use Rattle.st_world.specs.declared.world.rounds.Going.TheVariants.{On}
use Rattle.st_service.specs.declared.acts.Acted.{Acted}
use Rattle.st_service.specs.declared.acts.Acted.TheVariants.{Done, JournalFull}
use Rattle.st_service.specs.Awaits.{Awaits}
use Rattle.st_service.specs.Made.{Made, past_in}
use Rattle.st_service.specs.Passes.{Holder, IsTaught, Reads, front_at, mine_at}
use Rattle.st_service.specs.Puts.{Enters}
use Rattle.st_service.specs.Tickets.{latest_in}
use Rattle.st_service.specs.Turns.{Settles}

-- a settle asks for a round at least
abbrev pub HasRounds : Act → Type 0
HasRounds (Settle n rounds) = 0 < rounds
HasRounds _ = Unit {0}

-- an act of one hold: its course, as consecutive entries
abbrev pub EntersAct : Act → Group → List WireLine → ℕ → List Made → List ℕ → List Made → List ℕ → Type 0
EntersAct act g lines number before was after now = (mid : List Made) × Enters (λ past. course_of (record { 0 = number }) act g lines (course_from past)) On number mid before was after now

-- the entries of an act that is done; a span is not done, since no group does it alone
abbrev pub ActEnters : Act → Group → List WireLine → ℕ → List Made → List ℕ → List Made → List ℕ → Type 0
ActEnters (Await n) g lines number before was after now = Awaits (latest_in before was) g number before was after now
ActEnters (Settle n rounds) g lines number before was after now = Settles g lines number rounds before was after now
ActEnters (Read n entity var) g lines number before was after now = (after ≡ before) × (now ≡ was)
ActEnters (ReadAt n version entity var) g lines number before was after now = IsPrefix before after × (now ≡ was)
ActEnters (Propose n rows) g lines number before was after now = EntersAct (Propose n rows) g lines number before was after now
ActEnters (Lock n entity prio) g lines number before was after now = EntersAct (Lock n entity prio) g lines number before was after now
ActEnters (Unlock n entity prio) g lines number before was after now = EntersAct (Unlock n entity prio) g lines number before was after now
ActEnters (Fail n entity health rows) g lines number before was after now = EntersAct (Fail n entity health rows) g lines number before was after now
ActEnters (Poll n entity) g lines number before was after now = EntersAct (Poll n entity) g lines number before was after now
ActEnters (Span first first_rows second second_rows) g lines number before was after now = ⊥

-- what an act logs: an act that reads logs what it saw, a read by the reader's front, and a read of a version by the new front of the journal
abbrev pub ActLogs : Act → Group → Holder → Holder → Type 0
ActLogs (Read n entity var) g old new = Reads g n entity var old new
ActLogs (ReadAt n version entity var) g old new =
    new.log ≡ old.log ++ record { group = n; entity = entity; var = var; saw = seen_at (record { group = g; past = past_in (front_at new.fronts n) }) version entity var } ∷ []
ActLogs _ g old new = new.log ≡ old.log

-- an act that takes the lock teaches the reader: what the new front overlays its target with begins the reader's front
abbrev pub ActTeaches : Act → Holder → Type 0
ActTeaches (Read n entity var) new = Unit {0}
ActTeaches act new = IsTaught new (group_number act)

pub record ActDone (act : Act) (g : Group) (lines : List WireLine) (old new : Holder) : Type 0 where
  pub entered : ActEnters act g lines old.number (front_at old.fronts (group_number act)) (mine_at old.mines (group_number act)) (front_at new.fronts (group_number act)) (mine_at new.mines (group_number act))
  pub logged : ActLogs act g old new
  pub taught : ActTeaches act new

-- an act that only reads enters nothing, so that it meets no full journal
abbrev pub MayMeetFull : Act → Type 0
MayMeetFull (Read n entity var) = ⊥
MayMeetFull (ReadAt n version entity var) = ⊥
MayMeetFull _ = Unit {0}

-- an act of which an event met a full journal: the pass has seen the journal full, the reader is taught, and nothing is logged
pub record ActFull (act : Act) (old new : Holder) : Type 0 where
  pub enters : MayMeetFull act
  pub full : length (front_at new.fronts (group_number act)) ≡ MAX_ENTRIES
  pub taught : IsTaught new (group_number act)
  pub logged : new.log ≡ old.log

-- of an answer to an act
abbrev pub Acts : Acted → Act → Group → List WireLine → Holder → Holder → Type 0
Acts Done act g lines old new = ActDone act g lines old new
Acts (JournalFull n) act g lines old new = (n ≡ group_number act) × ActFull act old new

-- an act that may be done on so many rooms, which are of these groups
abbrev pub CanDo : (ℕ → Group) → ℕ → Act → Type 0
CanDo groups rooms act = (group_number act < rooms) × ActFits act (groups (group_number act)) × HasRounds act

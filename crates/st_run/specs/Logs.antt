-- What an application's log tells of a group: by its commands, and by the group's journal. The commands of a script and the lines of its log stand here
-- with the newest first.
use Rattle.std.specs.Prelude.{ℕ, ◌≡◌, ◌<◌, ◌≤◌, List, [], ◌∷◌, All, take, count_by}
use Rattle.st_net.specs.declared.entity.Entity.{Entity}
use Rattle.st_net.specs.declared.entity.Var.{Var}
use Rattle.st_event.specs.declared.act.Act.{Act}
use Rattle.st_event.specs.declared.act.Act.TheVariants.{Propose, Await, Settle, Lock, Unlock, Read, ReadAt, Fail, Poll, Span}
use Rattle.st_event.specs.declared.act.LogEntry.{LogEntry}
use Rattle.st_event.specs.declared.act.LogSaw.{LogSaw}
use Rattle.st_event.specs.declared.act.LogSaw.TheVariants.{Seen, At, NoVersion}
use Rattle.st_event.specs.declared.journal.Entry.{Entry}
use Rattle.st_event.specs.History.{History}
use Rattle.st_event.specs.Proposals.{is_accepted, verdicts, version}
use Rattle.st_event.specs.Versions.{value_at}

-- each command that reads has its line, in order, of which P holds with the commands before it, and no other line stands in the log
abbrev pub EachRead : (List Act → Act → LogEntry → Type 0) → List Act → List LogEntry → Type 0
EachRead P [] [] = Unit {0}
EachRead P [] (line ∷ lines) = ⊥
EachRead P (Read n entity var ∷ before) [] = ⊥
EachRead P (Read n entity var ∷ before) (line ∷ lines) = P before (Read n entity var) line × EachRead P before lines
EachRead P (ReadAt n version entity var ∷ before) [] = ⊥
EachRead P (ReadAt n version entity var ∷ before) (line ∷ lines) = P before (ReadAt n version entity var) line × EachRead P before lines
EachRead P (Propose n rows ∷ before) lines = EachRead P before lines
EachRead P (Await n ∷ before) lines = EachRead P before lines
EachRead P (Settle n rounds ∷ before) lines = EachRead P before lines
EachRead P (Lock n entity prio ∷ before) lines = EachRead P before lines
EachRead P (Unlock n entity prio ∷ before) lines = EachRead P before lines
EachRead P (Fail n entity health rows ∷ before) lines = EachRead P before lines
EachRead P (Poll n entity ∷ before) lines = EachRead P before lines
EachRead P (Span first first_rows second second_rows ∷ before) lines = EachRead P before lines

-- a line has what was asked for
pub record IsOf (n : ℕ) (e : Entity) (v : Var) (line : LogEntry) : Type 0 where
  pub group : line.group ≡ n
  pub entity : line.entity ≡ e
  pub var : line.var ≡ v

-- a read sees a version, and one of a version the version that was asked for, or that there is none
abbrev pub IsSeen : LogSaw → Type 0
IsSeen (Seen v x) = Unit {0}
IsSeen (At v x) = ⊥
IsSeen (NoVersion asked latest) = ⊥

abbrev pub IsAnswerAt : ℕ → LogSaw → Type 0
IsAnswerAt asked (Seen v x) = ⊥
IsAnswerAt asked (At v x) = v ≡ asked
IsAnswerAt asked (NoVersion v latest) = v ≡ asked

abbrev pub IsLineOf : Act → LogEntry → Type 0
IsLineOf (Read n entity var) line = IsOf n entity var line × IsSeen line.saw
IsLineOf (ReadAt n asked entity var) line = IsOf n entity var line × IsAnswerAt asked line.saw
IsLineOf (Propose n rows) line = ⊥
IsLineOf (Await n) line = ⊥
IsLineOf (Settle n rounds) line = ⊥
IsLineOf (Lock n entity prio) line = ⊥
IsLineOf (Unlock n entity prio) line = ⊥
IsLineOf (Fail n entity health rows) line = ⊥
IsLineOf (Poll n entity) line = ⊥
IsLineOf (Span first first_rows second second_rows) line = ⊥

-- a variable had this value at a version that a journal has; or there was no such version yet at one that it has
abbrev pub IsTrueOf : History → Entity → Var → LogSaw → Type 0
IsTrueOf h entity var (Seen v x) = (v ≤ version h.past) × (x ≡ value_at h.group h.past v entity var)
IsTrueOf h entity var (At v x) = (v ≤ version h.past) × (x ≡ value_at h.group h.past v entity var)
IsTrueOf h entity var (NoVersion asked latest) = (latest < asked) × (latest ≤ version h.past)

-- a later line on the same group sees no less than an earlier one. One of a version that there is says nothing of the latest
abbrev pub IsNoLess : LogSaw → LogSaw → Type 0
IsNoLess (Seen v x) (Seen w y) = v ≤ w
IsNoLess (Seen v x) (At w y) = Unit {0}
IsNoLess (Seen v x) (NoVersion asked latest) = Unit {0}
IsNoLess (At v x) (Seen w y) = Unit {0}
IsNoLess (At v x) (At w y) = Unit {0}
IsNoLess (At v x) (NoVersion asked latest) = Unit {0}
IsNoLess (NoVersion asked latest) (Seen w y) = latest ≤ w
IsNoLess (NoVersion asked latest) (At w y) = Unit {0}
IsNoLess (NoVersion asked latest) (NoVersion others w) = latest ≤ w

abbrev pub GoesOn : LogEntry → LogEntry → Type 0
GoesOn later earlier = later.group ≡ earlier.group → IsNoLess earlier.saw later.saw

abbrev pub NeverLess : List LogEntry → Type 0
NeverLess [] = Unit {0}
NeverLess (line ∷ lines) = All (GoesOn line) lines × NeverLess lines

-- how many of the proposals up to a ticket were accepted
abbrev pub accepted_up_to : ℕ → List Entry → ℕ
accepted_up_to ticket past = count_by is_accepted (take ticket (verdicts past))

-- the version that a line saw, or the latest that it tells, is at least so high
abbrev pub HasSeen : LogSaw → ℕ → Type 0
HasSeen (Seen v x) count = count ≤ v
HasSeen (At v x) count = Unit {0}
HasSeen (NoVersion asked latest) count = count ≤ latest

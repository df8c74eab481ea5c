-- What a pass enters under one hold of a room's lock: its course of events, and how many entries that makes at the most.
use Rattle.std.specs.Prelude.{◌≡◌, ℕ, ◌+◌, ◌≤◌, Bool, true, false, nat_le, List, length, if◌then◌else◌}
use Rattle.st_net.specs.declared.entity.Entity.{Entity}
use Rattle.st_net.specs.Groups.{Group, IsEntityOf}
use Rattle.st_event.specs.declared.act.Act.{Act}
use Rattle.st_event.specs.declared.act.Act.TheVariants.{Propose, Await, Settle, Lock, Unlock, Read, ReadAt, Fail, Poll, Span}
use Rattle.st_event.specs.declared.event.Event.TheVariants.{Check}
use Rattle.st_event.specs.declared.journal.Entry.{Entry}
use Rattle.st_event.specs.Proposals.{deciders, proposals}
use Rattle.st_wire.specs.declared.line.WireLine.{WireLine}
use Rattle.st_world.specs.Acts.{ActFits, course_of}
use Rattle.st_world.specs.Commits.{MayCommit}
use Rattle.st_world.specs.Rounds.{Course, course_from, enter, update_turn, poll, turn}
use Rattle.st_service.specs.declared.work.Part.{Part}
use Rattle.st_service.specs.declared.work.Part.TheVariants.{Whole, Update, Monitor}
use Rattle.st_service.specs.declared.work.Work.{Work}
use Rattle.st_service.specs.declared.work.Work.TheVariants.{OneAct, Commit, Turn}

-- the ticket is decided in this journal
abbrev pub IsDecided : ℕ → List Entry → Type 0
IsDecided ticket past = ticket ≤ length (deciders past)

-- the ticket was given to a proposal
abbrev pub IsGiven : ℕ → List Entry → Type 0
IsGiven ticket past = ticket ≤ length (proposals past)

-- the ticket is the lowest that is not decided, and it was given: so it is the oldest that is pending
pub record IsOldest (ticket : ℕ) (past : List Entry) : Type 0 where
  pub next : ticket ≡ length (deciders past) + 1
  pub given : IsGiven ticket past

abbrev pub is_decided : ℕ → List Entry → Bool
is_decided ticket past = nat_le ticket (length (deciders past))

-- an entity's turn, or a half of it
abbrev pub part_of : Part → Group → List WireLine → Course → Entity → Course
part_of Whole g lines course e = turn g lines course e
part_of Update g lines course e = update_turn g lines course e
part_of Monitor g lines course e = poll g lines course e

-- a check for a ticket, unless it is decided
abbrev pub check_course : ℕ → Group → List Entry → Course
check_course ticket g past = if is_decided ticket past then course_from past else enter g (course_from past) Check

-- the course of a work of the pass of this number, where this is the journal: an act's own course; the check that a ticket was judged for; an
-- entity's turn
abbrev pub course_at : ℕ → Work → Group → List WireLine → List Entry → Course
course_at number (OneAct act) g lines past = course_of (record { 0 = number }) act.now g lines (course_from past)
course_at number (Commit judged) g lines past = check_course judged.now.ticket g past
course_at number (Turn part entity) g lines past = part_of part g lines (course_from past) entity

-- an act that is made under one hold
abbrev pub is_of_one_hold : Act → Bool
is_of_one_hold (Propose n rows) = true
is_of_one_hold (Await n) = false
is_of_one_hold (Settle n rounds) = false
is_of_one_hold (Lock n entity prio) = true
is_of_one_hold (Unlock n entity prio) = true
is_of_one_hold (Read n entity var) = false
is_of_one_hold (ReadAt n version entity var) = false
is_of_one_hold (Fail n entity health rows) = true
is_of_one_hold (Poll n entity) = true
is_of_one_hold (Span first first_rows second second_rows) = false

abbrev pub WorkFits : Work → Group → Type 0
WorkFits (OneAct act) g = ActFits act.now g × (is_of_one_hold act.now ≡ true)
WorkFits (Commit judged) g = Unit {0}
WorkFits (Turn part entity) g = IsEntityOf g entity

-- where this is the journal, what was judged may be committed
abbrev pub MayDo : Work → List Entry → Type 0
MayDo (OneAct act) past = Unit {0}
MayDo (Commit judged) past = MayCommit past judged.now.ticket
MayDo (Turn part entity) past = Unit {0}

-- an act that may decide a proposal, by a check that is its first entry, and a work
abbrev pub act_may_decide : Act → Bool
act_may_decide (Propose n rows) = true
act_may_decide (Await n) = false
act_may_decide (Settle n rounds) = false
act_may_decide (Lock n entity prio) = false
act_may_decide (Unlock n entity prio) = false
act_may_decide (Read n entity var) = false
act_may_decide (ReadAt n version entity var) = false
act_may_decide (Fail n entity health rows) = false
act_may_decide (Poll n entity) = false
act_may_decide (Span first first_rows second second_rows) = false

abbrev pub may_decide : Work → Bool
may_decide (OneAct act) = act_may_decide act.now
may_decide (Commit judged) = true
may_decide (Turn part entity) = false

-- The failures of a group that its journal tells, and those that commands ask for. A journal stands here with its newest entry first.
use Rattle.std.specs.Prelude.{ℕ, ◌≡◌, List, [], ◌∷◌, ◌++◌}
use Rattle.st_net.specs.declared.entity.Entity.{Entity}
use Rattle.st_net.specs.declared.entity.Vals.{Vals}
use Rattle.st_net.specs.Groups.{Group}
use Rattle.st_event.specs.declared.act.Act.{Act}
use Rattle.st_event.specs.declared.act.Act.TheVariants.{Propose, Await, Settle, Lock, Unlock, Read, ReadAt, Fail, Poll, Span}
use Rattle.st_event.specs.declared.event.Event.{Event}
use Rattle.st_event.specs.declared.event.Event.TheVariants.{Submit, Check, Lock as lock_event, Unlock as unlock_event, Send, Deliver, Finish, Report, Hear, Fail as fail_event, Withdraw}
use Rattle.st_event.specs.declared.journal.Entry.{Entry}
use Rattle.st_event.specs.Moments.{vals}
use Rattle.st_world.specs.Acts.{failed_vals}

-- what an entity was and became: its values before and after, and its health after
pub record Failure : Type 0 where
  pub entity : Entity
  pub before : Vals
  pub after : Vals
  pub health : ℕ

-- the failure that an event makes of a group, if it makes one
abbrev pub failure_by : Group → List Entry → Event → List Failure
failure_by g past (fail_event e after health) = record { entity = e; before = vals g past e; after = after; health = health } ∷ []
failure_by g past (Submit app rows) = []
failure_by g past Check = []
failure_by g past (lock_event app e prio) = []
failure_by g past (unlock_event app e prio) = []
failure_by g past (Send e) = []
failure_by g past (Deliver n) = []
failure_by g past (Finish e) = []
failure_by g past (Report e) = []
failure_by g past (Hear n) = []
failure_by g past (Withdraw e) = []

-- the failures in a journal, the oldest first
abbrev pub failures_in : Group → List Entry → List Failure
failures_in g [] = []
failures_in g (entry ∷ past) = failures_in g past ++ failure_by g past entry.event

-- the failure is the one that a command asks for: what its rows do not name has the value of before
abbrev pub IsFailureBy : Failure → Act → Type 0
IsFailureBy f (Fail n entity health rows) = (f.entity ≡ entity) × (f.after ≡ failed_vals entity f.before rows) × (f.health ≡ health)
IsFailureBy f (Propose n rows) = ⊥
IsFailureBy f (Await n) = ⊥
IsFailureBy f (Settle n rounds) = ⊥
IsFailureBy f (Lock n entity prio) = ⊥
IsFailureBy f (Unlock n entity prio) = ⊥
IsFailureBy f (Read n entity var) = ⊥
IsFailureBy f (ReadAt n version entity var) = ⊥
IsFailureBy f (Poll n entity) = ⊥
IsFailureBy f (Span first first_rows second second_rows) = ⊥

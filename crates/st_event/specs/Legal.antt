-- Which journals are legal.
use Rattle.std.specs.Prelude.{◌≡◌, ℕ, ◌<◌, true, List, [], ◌∷◌, length}
use Rattle.st_net.specs.declared.entity.Vals.{Vals}
use Rattle.st_net.specs.declared.entity.Entity.{Entity}
use Rattle.st_event.specs.declared.event.Event.{Event}
use Rattle.st_event.specs.declared.event.Event.TheVariants.{Submit, Check, Lock, Unlock, Send, Deliver, Finish, Report as make_report, Hear, Fail, Withdraw}
use Rattle.st_event.specs.declared.journal.Entry.{Entry}
use Rattle.st_event.specs.declared.journal.TheConstants.{MAX_ENTRIES}
use Rattle.st_net.specs.Groups.{Group, IsEntityOf}
use Rattle.st_event.specs.Replies.{reply}
use Rattle.st_net.specs.Ranges.{RowsFit, are_in_range, is_health_of}

pub record FailFits (g : Group) (e : Entity) (vals : Vals) (health : ℕ) : Type 0 where
  pub entity : IsEntityOf g e
  pub range : are_in_range e vals ≡ true
  pub level : is_health_of e health ≡ true

-- an event names entities of the group, and values in range
abbrev pub Fits : Group → Event → Type 0
Fits g (Submit app rows) = RowsFit g rows
Fits g Check = Unit {0}
Fits g (Lock app e prio) = IsEntityOf g e
Fits g (Unlock app e prio) = IsEntityOf g e
Fits g (Send e) = IsEntityOf g e
Fits g (Deliver n) = Unit {0}
Fits g (Finish e) = IsEntityOf g e
Fits g (make_report e) = IsEntityOf g e
Fits g (Hear n) = Unit {0}
Fits g (Fail e vals health) = FailFits g e vals health
Fits g (Withdraw e) = IsEntityOf g e

-- there is room for the entry, its event fits, and its reply is the one that the entries before it call for
pub record IsNext (g : Group) (past : List Entry) (entry : Entry) : Type 0 where
  pub room : length past < MAX_ENTRIES
  pub fits : Fits g entry.event
  pub answer : entry.reply ≡ reply g past entry.event

abbrev pub IsLegal : Group → List Entry → Type 0
IsLegal g [] = Unit {0}
IsLegal g (entry ∷ past) = IsNext g past entry × IsLegal g past

-- each journal that this one went through
abbrev pub AtEach : (List Entry → Type 0) → List Entry → Type 0
AtEach P [] = P []
AtEach P (entry ∷ past) = P (entry ∷ past) × AtEach P past

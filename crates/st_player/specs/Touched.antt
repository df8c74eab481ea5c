-- Of no concern to callers: what an entry can change of what is shown of its group, so that all else stays as it was shown.
use Rattle.std.specs.Prelude.{◌≡◌, ℕ, ◌||◌, ◌++◌, Bool, false, List, [], ◌∷◌, Option, Some, None, drop, option_map, slice_index_or, take, if◌then◌else◌}
use Rattle.serde_json.specs.Data.{Data}
use Rattle.serde_json.specs.View.{view}
use Rattle.st_net.specs.declared.entity.Entity.{Entity}
use Rattle.st_net.specs.declared.entity.Entity.TheVariants.{Device, Link}
use Rattle.st_net.specs.declared.topo.LinkOpening.{LinkOpening}
use Rattle.st_net.specs.Demands.{held_list}
use Rattle.st_net.specs.Entities.{is_same_entity}
use Rattle.st_net.specs.Groups.{Group, IsEntityOf, no_link}
use Rattle.st_net.specs.Numbered.{nth}
use Rattle.st_net.specs.Sets.{IsMarkIn, MarksOf, is_in}
use Rattle.st_event.specs.declared.event.Event.{Event}
use Rattle.st_event.specs.declared.event.Event.TheVariants.{Submit, Check, Lock, Unlock, Send, Deliver, Finish, Report as make_report, Hear, Fail, Withdraw}
use Rattle.st_event.specs.declared.journal.Entry.{Entry}
use Rattle.st_event.specs.History.{History}
use Rattle.st_event.specs.Moments.{commands, reports}
use Rattle.st_event.specs.Observed.{actual, sure}
use Rattle.st_player.specs.declared.turns.Turned.{Turned}
use Rattle.st_player.specs.declared.snapshot.Held.{Held}
use Rattle.st_player.specs.declared.state.State.{State}
use Rattle.st_player.specs.declared.touched.Touched.{Touched}
use Rattle.st_player.specs.declared.touched.Touched.TheVariants.{Nothing, Near, Altered}
use Rattle.st_player.specs.Entries.{turned_of}
use Rattle.st_player.specs.Fields.{change_data, changes_from, fields_between, has_field}
use Rattle.st_player.specs.Snapshots.{states_of}
use Rattle.st_player.specs.States.{state_of}
use Rattle.st_player.specs.Steps.{IsHeld}

-- the entity that an event moves where it overlays nothing: by its locks, in the network, or by what is heard of it
abbrev pub moved_by : Group → List Entry → Event → Option Entity
moved_by g past (Lock app e prio) = Some e
moved_by g past (Unlock app e prio) = Some e
moved_by g past (Deliver n) = option_map (λ c. c.entity) (nth (commands g past) n)
moved_by g past (Finish e) = Some e
moved_by g past (Hear n) = option_map (λ r. r.entity) (nth (reports g past) n)
moved_by g past (Fail e vals health) = Some e
moved_by g past (Submit app rows) = None
moved_by g past Check = None
moved_by g past (Send e) = None
moved_by g past (make_report e) = None
moved_by g past (Withdraw e) = None

-- whether an entity may be moved
abbrev pub may_move : Touched → Entity → Bool
may_move Nothing e = false
may_move (Near at) e = is_same_entity at e
may_move (Altered set) e = is_in set e

-- whether what is shown of an entity may be another than before: of a link its ends are shown too
abbrev pub may_move_end : Touched → LinkOpening → Bool
may_move_end touched link = may_move touched (Device link.a) || may_move touched (Device link.b)

abbrev pub may_show : Group → Touched → Entity → Bool
may_show g touched (Device i) = may_move touched (Device i)
may_show g touched (Link i) = may_move touched (Link i) || may_move_end touched (slice_index_or g.links i no_link)

-- the one entity is of the group, and the set has a mark for each of its entities
abbrev pub IsTouchIn : Group → Touched → Type 0
IsTouchIn g Nothing = Unit {0}
IsTouchIn g (Near at) = IsEntityOf g at
IsTouchIn g (Altered set) = MarksOf g set

-- a set that there is has a mark for this entity, or for each of the group
abbrev pub HasMark : Touched → Entity → Type 0
HasMark Nothing e = Unit {0}
HasMark (Near at) e = Unit {0}
HasMark (Altered set) e = IsMarkIn set e

abbrev pub HasMarks : Group → Touched → Type 0
HasMarks g Nothing = Unit {0}
HasMarks g (Near at) = Unit {0}
HasMarks g (Altered set) = MarksOf g set

-- the network is as it was, and the same promises hold in the sure set
pub record LeavesPromises (old new : History) : Type 0 where
  pub network : (e : Entity) → actual old.group old.past e ≡ actual new.group new.past e
  pub kept : held_list old.group (sure old.group old.past) ≡ held_list new.group (sure new.group new.past)

abbrev pub LeavesPromisesIn : Touched → History → History → Type 0
LeavesPromisesIn Nothing old new = Unit {0}
LeavesPromisesIn (Near at) old new = Unit {0}
LeavesPromisesIn (Altered set) old new = LeavesPromises old new

-- from one moment of a group to another nothing else changes
pub record Touches (old new : History) (touched : Touched) : Type 0 where
  pub group : old.group ≡ new.group
  pub within : IsTouchIn new.group touched
  pub states : (e : Entity) → may_show new.group touched e ≡ false → state_of old.group old.past e ≡ state_of new.group new.past e
  pub network : (e : Entity) → may_move touched e ≡ false → actual old.group old.past e ≡ actual new.group new.past e
  pub sure_is : (e : Entity) → may_move touched e ≡ false → sure old.group old.past e ≡ sure new.group new.past e
  pub promises : LeavesPromisesIn touched old new

-- a set where this entity is in, or is out
abbrev pub set_at : (Entity → Bool) → Entity → Bool → Entity → Bool
set_at set at is e = if is_same_entity at e then is else set e

-- the promises that hold in a set, and which of them turned since these were judged
pub record IsTurned (g : Group) (up : Entity → Bool) (before : Held) (turned : Turned) : Type 0 where
  pub held : IsHeld g up turned.held
  pub told : option_map view turned.told ≡ turned_of before.kept.items turned.held.kept.items

-- the states of a group from one moment to another, brought up to date before place i, and what was told of them
pub record IsRenewed (old new : History) (i : ℕ) (states : List State) (told : List Data) : Type 0 where
  pub states_are : states ≡ take i (states_of new.group new.past) ++ drop i (states_of old.group old.past)
  pub told_is : told ++ changes_from i (drop i (states_of old.group old.past)) (drop i (states_of new.group new.past)) ≡ changes_from 0 (states_of old.group old.past) (states_of new.group new.past)

-- what is told of the entity of this number, where its state differs
abbrev pub change_at : ℕ → State → State → List Data
change_at n old new = if has_field (fields_between old new) then change_data n old new ∷ [] else []

-- Of no concern to callers: what is kept of a journal beside its world.
use Rattle.std.specs.Prelude.{◌≡◌, ℕ, ◌+◌, ◌==◌, nat_lt, nat_le, Bool, false, List, [], ◌∷◌, Option, Some, None, length, slice_index_or, slice_set, if◌then◌else◌, unwrap_or}
use Rattle.st_net.specs.declared.entity.Entity.{Entity}
use Rattle.st_net.specs.declared.message.Report.{Report as report_lem}
use Rattle.st_net.specs.Agents.{Agent, is_at_work, is_agent_up, agent_level}
use Rattle.st_net.specs.Groups.{Group, IsEntityOf}
use Rattle.st_net.specs.InOrder.{entity_count, item_in, place_in}
use Rattle.st_net.specs.Numbered.{nth}
use Rattle.st_event.specs.declared.event.Event.{Event}
use Rattle.st_event.specs.declared.event.Event.TheVariants.{Report, Hear, Fail}
use Rattle.st_event.specs.declared.journal.Entry.{Entry}
use Rattle.st_event.specs.History.{History}
use Rattle.st_event.specs.Moments.{is_fail_of, number, reports}
use Rattle.st_event.specs.Observed.{observed}
use Rattle.st_player.specs.declared.origins.Origin.{Origin}
use Rattle.st_player.specs.declared.playback.Told.{Told}
use Rattle.st_player.specs.declared.state.Carriage.{Carriage}
use Rattle.st_player.specs.declared.state.Carriage.TheVariants.{Busy, Up, Off, Failed, Drained}
use Rattle.st_player.specs.Entries.{askers}
use Rattle.st_player.specs.Known.{known_since, makers}
use Rattle.st_player.specs.Origins.{AreOrigins}
use Rattle.st_player.specs.States.{greatest}

-- how an entity is in the network, by its agent
abbrev pub carriage_in : Entity → Agent → Carriage
carriage_in e a =
    if is_at_work a.work then Busy
    else (if is_agent_up e a then Up
    else (if a.vals.v0 == 0 then Off
    else (if nat_lt (agent_level e a) (greatest e) then Failed
    else Drained)))

-- how many reports an entity had made when it last failed
abbrev pub last_fail : List Entry → Entity → Option ℕ
last_fail [] e = None
last_fail (entry ∷ past) e = if is_fail_of e entry.event then Some (number past e) else last_fail past e

-- whether that stands after the making of its report of this number
abbrev pub is_since : Option ℕ → ℕ → Bool
is_since None from = false
is_since (Some made) from = nat_le from made

-- what is kept of an entity
abbrev pub no_told : Told
no_told = record { made = 0; failed = None }

abbrev pub told_of : List Entry → Entity → Told
told_of past e = record { made = number past e; failed = last_fail past e }

-- of each entity of the group, in their order
pub record AreTold (g : Group) (past : List Entry) (told : List Told) : Type 0 where
  pub count : length told ≡ entity_count g
  pub each : (e : Entity) → IsEntityOf g e → item_in g told (λ e. no_told) e ≡ told_of past e

-- after an event of an entity
abbrev pub told_at : Group → List Told → Entity → Told
told_at g told e = slice_index_or told (place_in g e) no_told

abbrev pub told_after : Group → Event → List Told → List Told
told_after g (Report e) told = slice_set told (place_in g e) (record { made = (told_at g told e).made + 1; failed = (told_at g told e).failed })
told_after g (Fail e vals health) told = slice_set told (place_in g e) (record { made = (told_at g told e).made; failed = Some (told_at g told e).made })
told_after g _ told = told

-- the entries by which the reports that are kept were made, in the order of entities
pub record AreSince (g : Group) (past : List Entry) (since : List ℕ) : Type 0 where
  pub count : length since ≡ entity_count g
  pub each : (e : Entity) → IsEntityOf g e → item_in g since (λ e. 0) e ≡ known_since g past e

-- after a report of this maker is heard, and after an event
abbrev pub heard_since : Group → List Entry → Option report_lem → ℕ → List ℕ → List ℕ
heard_since g past None maker since = since
heard_since g past (Some r) maker since = if nat_lt (observed g past r.entity).number r.number then slice_set since (place_in g r.entity) maker else since

abbrev pub all_since : Group → List Entry → Event → List ℕ → List ℕ → List ℕ
all_since g past (Hear n) made since = heard_since g past (nth (reports g past) n) (unwrap_or (nth made n) 0) since
all_since g past _ made since = since

-- what is kept beside a world is that of its journal
pub record IsPlayback (h : History) (told : List Told) (asked made since : List ℕ) (origins : List Origin) : Type 0 where
  pub told_is : AreTold h.group h.past told
  pub asked_is : asked ≡ askers h.past
  pub made_is : made ≡ makers h.past
  pub since_is : AreSince h.group h.past since
  pub origins_are : AreOrigins h.group h.past origins

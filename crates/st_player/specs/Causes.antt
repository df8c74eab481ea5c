-- Who set what a page opens with, and which entry failed what has failed there: of a page that begins behind entries.
use Rattle.std.specs.Prelude.{ℕ, ◌+◌, ◌==◌, ◌&&◌, nat_lt, Bool, false, List, [], ◌∷◌, ◌++◌, length, flat_map, Option, Some, None, codes, option_map, if◌then◌else◌}
use Rattle.std.specs.List.{list_any}
use Rattle.serde_json.specs.Data.{Data, object, no_members, put}
use Rattle.st_net.specs.declared.entity.Entity.{Entity}
use Rattle.st_net.specs.declared.entity.Row.{Row}
use Rattle.st_net.specs.declared.entity.Vals.{Vals}
use Rattle.st_net.specs.declared.entity.Var.{Var}
use Rattle.st_net.specs.declared.entity.Var.TheVariants.{Power, Firmware, Config, Routing, LinkPower, Iface}
use Rattle.st_net.specs.Entities.{is_same_entity}
use Rattle.st_net.specs.Groups.{Group, opening_of}
use Rattle.st_net.specs.InOrder.{entities_of, place_in}
use Rattle.st_net.specs.Merge.{vals_in}
use Rattle.st_event.specs.declared.event.Event.{Event}
use Rattle.st_event.specs.declared.event.Event.TheVariants.{Check, Fail}
use Rattle.st_event.specs.declared.event.Proposal.{Proposal}
use Rattle.st_event.specs.declared.journal.Entry.{Entry}
use Rattle.st_event.specs.Proposals.{first_rows, overlay_in, pending, target, version}
use Rattle.st_player.specs.declared.origins.Failure.{Failure}
use Rattle.st_player.specs.declared.origins.Origin.{Origin}
use Rattle.st_player.specs.declared.origins.Setter.{Setter}
use Rattle.st_player.specs.Json.{number_data, put_list, put_some}
use Rattle.st_player.specs.States.{greatest}

-- the place of a variable among its entity's, from 0
abbrev pub var_place : Var → ℕ
var_place Power = 0
var_place Firmware = 1
var_place Config = 2
var_place Routing = 3
var_place LinkPower = 0
var_place Iface = 1

-- whether one of these rows is on the variable at a place of an entity
abbrev pub is_set_by : List Row → Entity → ℕ → Bool
is_set_by rows e k = list_any (λ row. is_same_entity row.entity e && var_place row.var == k) rows

-- the application of the first of these proposals
abbrev pub first_app : List Proposal → Option ℕ
first_app [] = None
first_app (p ∷ ps) = Some p.app.0

-- the application that sets what an event overlays the target with: at a check that of the oldest proposal that waits, at a withdrawal none
abbrev pub app_by : Event → List Proposal → Option ℕ
app_by Check ps = first_app ps
app_by _ ps = None

-- what an entry overlays the target with
abbrev pub overlay_of : List Entry → Entry → Option (List Row)
overlay_of past entry = overlay_in entry.event entry.reply (first_rows (pending past))

-- whether an overlay has a row on the variable at a place of an entity
abbrev pub is_set_in : Option (List Row) → Entity → ℕ → Bool
is_set_in None e k = false
is_set_in (Some rows) e k = is_set_by rows e k

-- who sets what the entry behind these, of this event, overlays the target with: its version, and the application, where one sets it
abbrev pub next_setter : List Entry → Event → Setter
next_setter past event = record { version = version past + 1; app = app_by event (pending past) }

-- the newest overlay with a row on the variable at a place of an entity
abbrev pub setter_of : List Entry → Entity → ℕ → Option Setter
setter_of [] e k = None
setter_of (entry ∷ past) e k = if is_set_in (overlay_of past entry) e k then Some (next_setter past entry.event) else setter_of past e k

-- the newest failure of an entity: its entry, and the health that it left
abbrev pub failure_after : Event → ℕ → Entity → Option Failure → Option Failure
failure_after (Fail at vals health) n e before = if is_same_entity at e then Some (record { entry = n; health = health }) else before
failure_after _ n e before = before

abbrev pub failure_of : List Entry → Entity → Option Failure
failure_of [] e = None
failure_of (entry ∷ past) e = failure_after entry.event (length past + 1) e (failure_of past e)

-- both of an entity, its variables in order
abbrev pub origin_of : List Entry → Entity → Origin
origin_of past e = record {
  v0 = setter_of past e 0;
  v1 = setter_of past e 1;
  v2 = setter_of past e 2;
  v3 = setter_of past e 3;
  failure = failure_of past e;
}

-- what is told of the variable at place k of entity n, where its value in the target is not the opening's
abbrev pub set_data : ℕ → ℕ → Setter → Data
set_data n k setter = object (put_some (codes "app") (option_map number_data setter.app)
    (put (codes "version") (number_data setter.version)
    (put (codes "var") (number_data k)
    (put (codes "entity") (number_data n) no_members))))

abbrev pub one_set : ℕ → ℕ → Bool → Option Setter → List Data
one_set n k is_opening None = []
one_set n k is_opening (Some setter) = if is_opening then [] else set_data n k setter ∷ []

abbrev pub sets_by : ℕ → Vals → Vals → Origin → List Data
sets_by n target opening origin = one_set n 0 (target.v0 == opening.v0) origin.v0
    ++ (one_set n 1 (target.v1 == opening.v1) origin.v1
    ++ (one_set n 2 (target.v2 == opening.v2) origin.v2
    ++ one_set n 3 (target.v3 == opening.v3) origin.v3))

abbrev pub sets_of : Group → List Entry → Entity → List Data
sets_of g past e = sets_by (place_in g e) (vals_in g (target g past) e) (opening_of g e) (origin_of past e)

-- what is told of entity n, where less of it works than what is whole
abbrev pub failed_data : ℕ → Failure → Data
failed_data n failure = object (put (codes "entry") (number_data failure.entry) (put (codes "entity") (number_data n) no_members))

abbrev pub one_failed : ℕ → ℕ → Option Failure → List Data
one_failed n whole None = []
one_failed n whole (Some failure) = if nat_lt failure.health whole then failed_data n failure ∷ [] else []

abbrev pub failed_of : Group → List Entry → Entity → List Data
failed_of g past e = one_failed (place_in g e) (greatest e) (failure_of past e)

-- both lists, without one that is empty, and nothing where both are
abbrev pub causes_data : List Data → List Data → Option Data
causes_data [] [] = None
causes_data sets failed = Some (object (put_list (codes "failed") failed (put_list (codes "set") sets no_members)))

-- of all entities in order
unfoldable pub causes_of : Group → List Entry → Option Data
causes_of g past = causes_data (flat_map (sets_of g past) (entities_of g)) (flat_map (failed_of g past) (entities_of g))

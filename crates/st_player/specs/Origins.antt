-- Of no concern to callers: how what became of each entity is kept.
use Rattle.std.specs.Prelude.{◌≡◌, ℕ, ◌==◌, List, [], ◌∷◌, Option, Some, None, length, slice_index_or, slice_set, if◌then◌else◌}
use Rattle.st_net.specs.declared.entity.Entity.{Entity}
use Rattle.st_net.specs.declared.entity.Row.{Row}
use Rattle.st_net.specs.Groups.{Group, IsEntityOf}
use Rattle.st_net.specs.InOrder.{entity_count, item_in, place_in}
use Rattle.st_event.specs.declared.event.Event.{Event}
use Rattle.st_event.specs.declared.event.Event.TheVariants.{Fail}
use Rattle.st_event.specs.declared.journal.Entry.{Entry}
use Rattle.st_player.specs.declared.origins.Origin.{Origin}
use Rattle.st_player.specs.declared.origins.Setter.{Setter}
use Rattle.st_player.specs.Causes.{next_setter, origin_of, overlay_of, var_place}

abbrev pub no_origin : Origin
no_origin = record { v0 = None; v1 = None; v2 = None; v3 = None; failure = None }

-- of each entity of the group, in their order
pub record AreOrigins (g : Group) (past : List Entry) (origins : List Origin) : Type 0 where
  pub count : length origins ≡ entity_count g
  pub each : (e : Entity) → IsEntityOf g e → item_in g origins (λ e. no_origin) e ≡ origin_of past e

abbrev pub origin_at : Group → List Origin → Entity → Origin
origin_at g origins e = slice_index_or origins (place_in g e) no_origin

-- with another setter of the variable at a place
abbrev pub setter_at : Setter → ℕ → ℕ → Option Setter → Option Setter
setter_at setter place k before = if place == k then Some setter else before

abbrev pub with_setter : Setter → ℕ → Origin → Origin
with_setter setter place o = record {
  v0 = setter_at setter place 0 o.v0;
  v1 = setter_at setter place 1 o.v1;
  v2 = setter_at setter place 2 o.v2;
  v3 = setter_at setter place 3 o.v3;
  failure = o.failure;
}

-- after rows of a setter
abbrev pub set_origins : Group → Setter → List Row → List Origin → List Origin
set_origins g setter [] origins = origins
set_origins g setter (row ∷ rows) origins = set_origins g setter rows (slice_set origins (place_in g row.entity) (with_setter setter (var_place row.var) (origin_at g origins row.entity)))

-- after an event
abbrev pub failed_origins : Group → Event → ℕ → List Origin → List Origin
failed_origins g (Fail e vals health) n origins = slice_set origins (place_in g e) (record (origin_at g origins e) { failure = Some (record { entry = n; health = health }) })
failed_origins g _ n origins = origins

-- after an entry of this number, by what it overlays; what overlays the target is no failure
abbrev pub origins_by : Group → List Entry → Option (List Row) → Event → ℕ → List Origin → List Origin
origins_by g past None event n origins = failed_origins g event n origins
origins_by g past (Some rows) event n origins = set_origins g (next_setter past event) rows origins

abbrev pub origins_after : Group → List Entry → Entry → ℕ → List Origin → List Origin
origins_after g past entry n origins = origins_by g past (overlay_of past entry) entry.event n origins

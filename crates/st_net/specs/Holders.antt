-- Who holds the two locks of an entity.
use Rattle.std.specs.Prelude.{Bool, true, false, ◌==◌, ◌&&◌, Option, Some, None, if◌then◌else◌}
use Rattle.st_net.specs.declared.entity.AppId.{AppId}
use Rattle.st_net.specs.declared.entity.Entity.{Entity}
use Rattle.st_net.specs.declared.entity.Prio.{Prio}
use Rattle.st_net.specs.declared.entity.Prio.TheVariants.{Low, High}
use Rattle.st_net.specs.Entities.{is_same_entity}

abbrev pub is_same_prio : Prio → Prio → Bool
is_same_prio Low Low = true
is_same_prio High High = true
is_same_prio Low High = false
is_same_prio High Low = false

-- nobody else holds the lock
abbrev pub is_free_for : AppId → Option AppId → Bool
is_free_for app None = true
is_free_for app (Some holder) = holder.0 == app.0

-- the application holds the lock
abbrev pub is_held_by : AppId → Option AppId → Bool
is_held_by app None = false
is_held_by app (Some holder) = holder.0 == app.0

-- the holders with one lock's replaced
abbrev pub holder_set : (Entity → Prio → Option AppId) → Entity → Prio → Option AppId → Entity → Prio → Option AppId
holder_set holder at prio next e q = if is_same_entity at e && is_same_prio prio q then next else holder e q

-- the holders with one lock given back, where this application holds it
abbrev pub holder_freed : (Entity → Prio → Option AppId) → Entity → Prio → AppId → Entity → Prio → Option AppId
holder_freed holder at prio app = if is_held_by app (holder at prio) then holder_set holder at prio None else holder

-- a holder, and by which lock
pub record Holding : Type 0 where
  pub app : AppId
  pub prio : Prio

abbrev pub high_or_low : Option AppId → Option AppId → Option Holding
high_or_low (Some app) low = Some (record { app = app; prio = High })
high_or_low None (Some app) = Some (record { app = app; prio = Low })
high_or_low None None = None

-- the holder that counts: of the high lock, or else of the low one
abbrev pub effective_of : (Entity → Prio → Option AppId) → Entity → Option Holding
effective_of holder e = high_or_low (holder e High) (holder e Low)

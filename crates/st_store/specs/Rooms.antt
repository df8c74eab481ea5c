-- The changes of entities as they are kept, and how many more there is room for.
use Rattle.std.specs.Prelude.{◌≡◌, ℕ, ◌-◌, ◌<◌, ◌≤◌, false, List, map, slice_index_or, vec_len, vec_capacity}
use Rattle.st_net.specs.declared.entity.Entity.{Entity}
use Rattle.st_net.specs.declared.entity.Entity.TheVariants.{Device, Link}
use Rattle.st_net.specs.declared.entity.Row.{Row}
use Rattle.st_store.specs.declared.change.Change.{Change}
use Rattle.st_store.specs.declared.change.EntityChanges.{EntityChanges}
use Rattle.st_store.specs.declared.change_table.ChangeTable.{ChangeTable}
use Rattle.st_store.specs.Changes.{ChangeLists, changes_of, is_last_at}

abbrev pub changes_in : EntityChanges → List Change
changes_in c = c.changes.items

abbrev pub room_in : EntityChanges → ℕ
room_in c = vec_capacity c.changes - vec_len c.changes

abbrev pub lists_of : ChangeTable → ChangeLists
lists_of t = record { opening = t.opening; devices = map changes_in t.devices.items; links = map changes_in t.links.items }

-- how many more changes of an entity there is room for
abbrev pub room_at : ChangeTable → Entity → ℕ
room_at t (Device i) = slice_index_or (map room_in t.devices.items) i 0
room_at t (Link i) = slice_index_or (map room_in t.links.items) i 0

abbrev pub HasMoreRoom : ChangeTable → ChangeTable → Type 0
HasMoreRoom old new = (e : Entity) → room_at old e ≤ room_at new e

abbrev pub HasRoomFor : ChangeTable → Row → Type 0
HasRoomFor t row = 0 < room_at t row.entity

-- a change of version n can be entered without memory
abbrev pub IsReady : ℕ → ChangeTable → Entity → Type 0
IsReady n t e = is_last_at (changes_of (lists_of t) e) n ≡ false → 0 < room_at t e

abbrev pub IsReadyFor : ℕ → ChangeTable → Row → Type 0
IsReadyFor n t row = IsReady n t row.entity

abbrev pub StaysReady : ℕ → ChangeTable → ChangeTable → Type 0
StaysReady n old new = (e : Entity) → IsReady n old e → IsReady n new e

-- Sets of entities: tests, and the marks that a set keeps.
use Rattle.std.specs.Prelude.{◌≡◌, ◌<◌, nat_lt, Bool, true, false, List, length, slice_index_or, if◌then◌else◌}
use Rattle.st_net.specs.declared.entity.Entity.{Entity}
use Rattle.st_net.specs.declared.entity.Entity.TheVariants.{Device, Link}
use Rattle.st_net.specs.Entities.{is_same_entity}
use Rattle.st_net.specs.Groups.{Group}

-- whether an entity is one of the group's
abbrev pub is_of : Group → Entity → Bool
is_of g (Device i) = nat_lt i (length g.devices)
is_of g (Link i) = nat_lt i (length g.links)

-- a mark for each device and each link
pub record Marks : Type 0 where
  pub devices : List Bool
  pub links : List Bool

-- whether an entity is in the set
abbrev pub is_in : Marks → Entity → Bool
is_in s (Device i) = slice_index_or s.devices i false
is_in s (Link i) = slice_index_or s.links i false

abbrev pub IsMarkIn : Marks → Entity → Type 0
IsMarkIn s (Device i) = i < length s.devices
IsMarkIn s (Link i) = i < length s.links

-- a mark for each entity of the group
pub record MarksOf (g : Group) (s : Marks) : Type 0 where
  pub devices : length s.devices ≡ length g.devices
  pub links : length s.links ≡ length g.links

pub record HasSameMarks (old new : Marks) : Type 0 where
  pub devices : length new.devices ≡ length old.devices
  pub links : length new.links ≡ length old.links

-- a set with one entity more, and with one less
abbrev pub set_with : (Entity → Bool) → Entity → Entity → Bool
set_with set at e = if is_same_entity at e then true else set e

abbrev pub set_without : (Entity → Bool) → Entity → Entity → Bool
set_without set at e = if is_same_entity at e then false else set e

-- each entity of the one set is in the other
abbrev pub IsWithin : (Entity → Bool) → (Entity → Bool) → Type 0
IsWithin up more = (e : Entity) → up e ≡ true → more e ≡ true

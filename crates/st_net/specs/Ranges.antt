-- The ranges of values, healths and rows.
use Rattle.std.specs.Prelude.{ℕ, ◌≡◌, ◌≤◌, ◌^◌, ◌&&◌, nat_le, nat_lt, not, Bool, true, false, List, [], ◌∷◌, length, All}
use Rattle.st_net.specs.declared.entity.Entity.{Entity}
use Rattle.st_net.specs.declared.entity.Entity.TheVariants.{Device, Link}
use Rattle.st_net.specs.declared.entity.Var.{Var}
use Rattle.st_net.specs.declared.entity.Var.TheVariants.{Power, Firmware, Config, Routing, LinkPower, Iface}
use Rattle.st_net.specs.declared.entity.Vals.{Vals}
use Rattle.st_net.specs.declared.entity.Row.{Row}
use Rattle.st_net.specs.declared.topo.TheConstants.{MAX_ROWS}
use Rattle.st_net.specs.declared.range.TheConstants.{DEVICE_HEALTH, LINK_HEALTH}
use Rattle.st_net.specs.Entities.{is_same_entity, is_same_var, is_var_of}
use Rattle.st_net.specs.Groups.{Group, IsEntityOf, are_device_vals, are_link_vals}

-- the values that a device's variable may have, and a link's; none of a variable that such an entity does not have
abbrev pub is_device_value : Var → ℕ → Bool
is_device_value Power value = nat_le value 1
is_device_value Firmware value = nat_lt value (2 ^ 32)
is_device_value Config value = nat_lt value (2 ^ 32)
is_device_value Routing value = nat_le value 1
is_device_value LinkPower value = false
is_device_value Iface value = false

abbrev pub is_link_value : Var → ℕ → Bool
is_link_value Power value = false
is_link_value Firmware value = false
is_link_value Config value = false
is_link_value Routing value = false
is_link_value LinkPower value = nat_le value 1
is_link_value Iface value = nat_lt value (2 ^ 32)

abbrev pub is_in_range : Entity → Var → ℕ → Bool
is_in_range (Device i) = is_device_value
is_in_range (Link i) = is_link_value

-- values of an entity, each in range
abbrev pub are_in_range : Entity → Vals → Bool
are_in_range (Device i) = are_device_vals
are_in_range (Link i) = are_link_vals

-- the greatest health of an entity
abbrev pub most_health : Entity → ℕ
most_health (Device i) = DEVICE_HEALTH
most_health (Link i) = LINK_HEALTH

-- a health that the entity may have: from 0 to its greatest
abbrev pub is_health_of : Entity → ℕ → Bool
is_health_of e health = nat_le health (most_health e)

-- the row names an entity of the group, and a value that its variable may have
pub record RowFits (g : Group) (row : Row) : Type 0 where
  pub entity : IsEntityOf g row.entity
  pub range : is_in_range row.entity row.var row.value ≡ true

-- whether no row of the list is on this variable
abbrev pub is_free_of : Entity → Var → List Row → Bool
is_free_of e v [] = true
is_free_of e v (row ∷ rows) = not (is_same_entity row.entity e && is_same_var row.var v) && is_free_of e v rows

-- whether no two rows are on one variable
abbrev pub are_apart : List Row → Bool
are_apart [] = true
are_apart (row ∷ rows) = is_free_of row.entity row.var rows && are_apart rows

-- 1 to 16 rows that fit, no two of them on one variable
pub record RowsFit (g : Group) (rows : List Row) : Type 0 where
  pub some : 1 ≤ length rows
  pub few : length rows ≤ MAX_ROWS
  pub each : All (RowFits g) rows
  pub apart : are_apart rows ≡ true

-- a variable of an entity of the group
pub record IsVariableOf (entity : Entity) (var : Var) (g : Group) : Type 0 where
  pub entity_in : IsEntityOf g entity
  pub variable : is_var_of entity var ≡ true

abbrev pub IsOn : Entity → Row → Type 0
IsOn entity row = row.entity ≡ entity

-- what an entity of the group may change to of itself: a health, and values of its own variables
pub record IsChangeOf (entity : Entity) (health : ℕ) (rows : List Row) (g : Group) : Type 0 where
  pub entity_in : IsEntityOf g entity
  pub health_range : is_health_of entity health ≡ true
  pub own : All (IsOn entity) rows
  pub each : All (RowFits g) rows
  pub apart : are_apart rows ≡ true

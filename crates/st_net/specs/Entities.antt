-- Entities, their variables, and values of these.
use Rattle.std.specs.Prelude.{ℕ, ◌==◌, ◌&&◌, Bool, true, false, List, [], ◌∷◌}
use Rattle.st_net.specs.declared.entity.Entity.{Entity}
use Rattle.st_net.specs.declared.entity.Entity.TheVariants.{Device, Link}
use Rattle.st_net.specs.declared.entity.Var.{Var}
use Rattle.st_net.specs.declared.entity.Var.TheVariants.{Power, Firmware, Config, Routing, LinkPower, Iface}
use Rattle.st_net.specs.declared.entity.Vals.{Vals}

abbrev pub is_same_entity : Entity → Entity → Bool
is_same_entity (Device i) (Device j) = i == j
is_same_entity (Link i) (Link j) = i == j
is_same_entity (Device i) (Link j) = false
is_same_entity (Link i) (Device j) = false

-- the place of a variable in the table of all
abbrev pub place_of : Var → ℕ
place_of Power = 0
place_of Firmware = 1
place_of Config = 2
place_of Routing = 3
place_of LinkPower = 4
place_of Iface = 5

abbrev pub is_same_var : Var → Var → Bool
is_same_var v w = place_of v == place_of w

-- the variables of an entity, the lowest first
abbrev pub vars_of : Entity → List Var
vars_of (Device i) = Power ∷ Firmware ∷ Config ∷ Routing ∷ []
vars_of (Link i) = LinkPower ∷ Iface ∷ []

-- the variable of an entity's power
abbrev pub power_of : Entity → Var
power_of (Device i) = Power
power_of (Link i) = LinkPower

-- whether the entity has the variable
abbrev pub is_var_of : Entity → Var → Bool
is_var_of (Device i) Power = true
is_var_of (Device i) Firmware = true
is_var_of (Device i) Config = true
is_var_of (Device i) Routing = true
is_var_of (Link i) LinkPower = true
is_var_of (Link i) Iface = true
is_var_of _ _ = false

-- the value of a device's variable, and of a link's; 0 of a variable that such an entity does not have
abbrev pub device_value : Vals → Var → ℕ
device_value vals Power = vals.v0
device_value vals Firmware = vals.v1
device_value vals Config = vals.v2
device_value vals Routing = vals.v3
device_value vals LinkPower = 0
device_value vals Iface = 0

abbrev pub link_value : Vals → Var → ℕ
link_value vals Power = 0
link_value vals Firmware = 0
link_value vals Config = 0
link_value vals Routing = 0
link_value vals LinkPower = vals.v0
link_value vals Iface = vals.v1

abbrev pub value_of : Entity → Vals → Var → ℕ
value_of (Device i) vals = device_value vals
value_of (Link i) vals = link_value vals

-- the values with one variable set, where the entity has it
abbrev pub device_value_set : Vals → Var → ℕ → Vals
device_value_set vals Power value = record vals { v0 = value }
device_value_set vals Firmware value = record vals { v1 = value }
device_value_set vals Config value = record vals { v2 = value }
device_value_set vals Routing value = record vals { v3 = value }
device_value_set vals LinkPower value = vals
device_value_set vals Iface value = vals

abbrev pub link_value_set : Vals → Var → ℕ → Vals
link_value_set vals Power value = vals
link_value_set vals Firmware value = vals
link_value_set vals Config value = vals
link_value_set vals Routing value = vals
link_value_set vals LinkPower value = record vals { v0 = value }
link_value_set vals Iface value = record vals { v1 = value }

abbrev pub value_set : Entity → Vals → Var → ℕ → Vals
value_set (Device i) vals = device_value_set vals
value_set (Link i) vals = link_value_set vals

-- an entity's values by this function of its variables; what a link has no variable for stays as it opened
abbrev pub vals_by : Entity → Vals → (Var → ℕ) → Vals
vals_by (Device i) opening value = record { v0 = value Power; v1 = value Firmware; v2 = value Config; v3 = value Routing }
vals_by (Link i) opening value = record { v0 = value LinkPower; v1 = value Iface; v2 = opening.v2; v3 = opening.v3 }

abbrev pub is_same_vals : Vals → Vals → Bool
is_same_vals a b = a.v0 == b.v0 && a.v1 == b.v1 && a.v2 == b.v2 && a.v3 == b.v3

-- A table of values as contracts see it.
use Rattle.std.specs.Prelude.{◌≡◌, ℕ, ◌<◌, true, List, [], length, slice_index_or, slice_set, fold, All}
use Rattle.st_net.specs.declared.entity.Vals.{Vals}
use Rattle.st_net.specs.declared.entity.Row.{Row}
use Rattle.st_net.specs.declared.entity.Var.{Var}
use Rattle.st_net.specs.declared.entity.Entity.{Entity}
use Rattle.st_net.specs.declared.entity.Entity.TheVariants.{Device, Link}
use Rattle.st_net.specs.Entities.{value_of, value_set, is_var_of}
use Rattle.st_net.specs.Groups.{Group, no_vals}
use Rattle.st_net.specs.Merge.{target_with, merge_of, vals_in}

-- the values of each device and of each link
pub record Values : Type 0 where
  pub devices : List Vals
  pub links : List Vals

abbrev pub IsIn : Values → Entity → Type 0
IsIn t (Device i) = i < length t.devices
IsIn t (Link i) = i < length t.links

-- the values of an entity; zeros where the table does not have it
abbrev pub vals_at : Values → Entity → Vals
vals_at t (Device i) = slice_index_or t.devices i no_vals
vals_at t (Link i) = slice_index_or t.links i no_vals

-- the value of a variable
abbrev pub value_in : Values → Entity → Var → ℕ
value_in t e = value_of e (vals_at t e)

-- the table with one entity's values replaced
abbrev pub vals_set : Values → Entity → Vals → Values
vals_set t (Device i) vals = record t { devices = slice_set t.devices i vals }
vals_set t (Link i) vals = record t { links = slice_set t.links i vals }

-- the table with a row's variable set, where it has it
abbrev pub row_set : Values → Row → Values
row_set t row = vals_set t row.entity (value_set row.entity (vals_at t row.entity) row.var row.value)

-- the table with the rows set one after another
abbrev pub overlaid : Values → List Row → Values
overlaid = fold row_set

-- the table with the rows of proposals set, those of the oldest first
abbrev pub overlaid_all : Values → List (List Row) → Values
overlaid_all = fold overlaid

-- two tables with as many devices and links
pub record HasSameShape (old new : Values) : Type 0 where
  pub devices : length new.devices ≡ length old.devices
  pub links : length new.links ≡ length old.links

-- a table with values for each entity of the group. What is no variable of a link stays as it opened
pub record IsTableOf (g : Group) (t : Values) : Type 0 where
  pub devices : length t.devices ≡ length g.devices
  pub links : length t.links ≡ length g.links
  pub values : (e : Entity) → vals_in g (value_in t) e ≡ vals_at t e

-- the table has the row's entity, and the entity has the row's variable
abbrev pub IsRowIn : Values → Row → Type 0
IsRowIn t row = IsIn t row.entity × (is_var_of row.entity row.var ≡ true)

-- the new table is the old one with each row's variable set, and all else as before
pub record Overlays (old new : Values) (rows : List Row) : Type 0 where
  pub values : value_in new ≡ target_with (value_in old) rows
  pub devices : length new.devices ≡ length old.devices
  pub links : length new.links ≡ length old.links
  pub kept : (g : Group) → IsTableOf g old → IsTableOf g new

-- a table at the opening values that is overlaid by proposals has what the last writers gave
abbrev pub LastWriterWins : Type 0
LastWriterWins = (g : Group) (t : Values) (proposals : List (List Row)) → value_in t ≡ merge_of g [] → All (All (IsRowIn t)) proposals → value_in (overlaid_all t proposals) ≡ merge_of g proposals

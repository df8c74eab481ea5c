-- What the entities of a group were at each version of its target: the values that they opened with, and their changes since.
use Rattle.std.specs.Prelude.{ℕ, ◌-◌, ◌<◌, ◌≤◌, ◌==◌, nat_le, Bool, false, List, [], ◌∷◌, ◌++◌, length, slice_get, slice_index_or, slice_set, replicate, fold, All, Option, Some, None, if◌then◌else◌}
use Rattle.std.specs.List.Sorted.{IsNonDecreasingBy}
use Rattle.st_net.specs.declared.entity.Entity.{Entity}
use Rattle.st_net.specs.declared.entity.Entity.TheVariants.{Device, Link}
use Rattle.st_net.specs.declared.entity.Row.{Row}
use Rattle.st_net.specs.declared.entity.Vals.{Vals}
use Rattle.st_net.specs.declared.entity.Var.{Var}
use Rattle.st_net.specs.Entities.{value_of}
use Rattle.st_net.specs.Groups.{Group}
use Rattle.st_net.specs.Merge.{target_with}
use Rattle.st_overlay.specs.Values.{Values, IsIn, vals_at}
use Rattle.st_store.specs.declared.change.Change.{Change}

-- the opening values, and the changes of each device and of each link
pub record ChangeLists : Type 0 where
  pub opening : Values
  pub devices : List (List Change)
  pub links : List (List Change)

-- the changes of an entity; none where the lists do not have it
abbrev pub changes_of : ChangeLists → Entity → List Change
changes_of c (Device i) = slice_index_or c.devices i []
changes_of c (Link i) = slice_index_or c.links i []

-- the values that the last of the changes up to a version gave, or else those before them
abbrev pub vals_upto : ℕ → List Change → Vals → Vals
vals_upto v [] before = before
vals_upto v (change ∷ later) before = vals_upto v later (if nat_le change.version v then change.vals else before)

-- the values of an entity at a version; those of the last version beyond it
abbrev pub vals_at_version : ChangeLists → ℕ → Entity → Vals
vals_at_version c v e = vals_upto v (changes_of c e) (vals_at c.opening e)

-- the value of a variable at a version
abbrev pub value_at : ChangeLists → ℕ → Entity → Var → ℕ
value_at c v e = value_of e (vals_at_version c v e)

-- the values at each version, with rows merged into the last version, number n
abbrev pub values_with : (ℕ → Entity → Var → ℕ) → ℕ → List Row → ℕ → Entity → Var → ℕ
values_with values n rows = λ v. if nat_le v n then values v else target_with (values n) rows

abbrev pub HasEntity : ChangeLists → Entity → Type 0
HasEntity c (Device i) = i < length c.devices
HasEntity c (Link i) = i < length c.links

abbrev pub HasEntityOf : ChangeLists → Row → Type 0
HasEntityOf c row = HasEntity c row.entity

abbrev pub HasValuesOf : Values → Row → Type 0
HasValuesOf t row = IsIn t row.entity

-- no entity of a group has changed
abbrev pub unchanged : Group → Values → ChangeLists
unchanged g opening = record { opening = opening; devices = replicate (length g.devices) []; links = replicate (length g.links) [] }

abbrev pub version_of : Change → ℕ
version_of change = change.version

abbrev pub IsAscending : List Change → Type 0
IsAscending = IsNonDecreasingBy version_of

abbrev pub IsUpTo : ℕ → Change → Type 0
IsUpTo n change = change.version ≤ n

-- changes in order, none above version n
pub record IsOrderly (n : ℕ) (changes : List Change) : Type 0 where
  pub ascending : IsAscending changes
  pub within : All (IsUpTo n) changes

abbrev pub is_at : ℕ → Option Change → Bool
is_at v None = false
is_at v (Some change) = change.version == v

-- whether the last change is of this version
abbrev pub is_last_at : List Change → ℕ → Bool
is_last_at changes v = is_at v (slice_get changes (length changes - 1))

-- with one change more, in the place of the last one where that is of the same version
abbrev pub with_change : List Change → Change → List Change
with_change changes change = if is_last_at changes change.version then slice_set changes (length changes - 1) change else changes ++ change ∷ []

abbrev pub change_set : ChangeLists → Entity → Change → ChangeLists
change_set c (Device i) change = record c { devices = slice_set c.devices i (with_change (slice_index_or c.devices i []) change) }
change_set c (Link i) change = record c { links = slice_set c.links i (with_change (slice_index_or c.links i []) change) }

-- the values that a table has of a row's entity are entered, as those from version n on
abbrev pub row_entered : ℕ → Values → ChangeLists → Row → ChangeLists
row_entered n table c row = change_set c row.entity (record { version = n; vals = vals_at table row.entity })

abbrev pub entered : ℕ → Values → ChangeLists → List Row → ChangeLists
entered n table = fold (row_entered n table)

-- Of no concern to callers: what the index of a set of rows keeps.
use Rattle.std.specs.Prelude.{◌≡◌, ℕ, List, map, true}
use Rattle.std.specs.List.{AllByRecursion}
use Rattle.st_net.specs.declared.entity.Entity.{Entity}
use Rattle.st_net.specs.declared.entity.Entity.TheVariants.{Device, Link}
use Rattle.st_net.specs.declared.entity.Row.{Row}
use Rattle.st_net.specs.declared.pairs.Pair.{Pair}
use Rattle.st_net.specs.Entities.{place_of}
use Rattle.st_net.specs.Ranges.{are_apart}
use Rattle.st_token.specs.Variables.{IsInRange}

-- an entity's number among those of its kind
abbrev pub number_of : Entity → ℕ
number_of (Device i) = i
number_of (Link i) = i

-- the number of a row's entity, and the place of its variable
abbrev pub variable_of : Row → Pair
variable_of row = record { a = number_of row.entity; b = place_of row.var }

-- the index has the variable of each row, each row's value is one that its variable may have, and no two rows are on one variable
pub record HasVariables (rows : List Row) (variables : List Pair) : Type 0 where
  pub index : variables ≡ map variable_of rows
  pub range : AllByRecursion IsInRange rows
  pub apart : are_apart rows ≡ true

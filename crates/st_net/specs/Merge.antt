-- Last writer wins: the value of a variable after a list of proposals, the oldest first.
use Rattle.std.specs.Prelude.{ℕ, Bool, not, ◌&&◌, List, [], ◌∷◌, Option, Some, None, if◌then◌else◌, unwrap_or}
use Rattle.st_net.specs.declared.entity.Row.{Row}
use Rattle.st_net.specs.declared.entity.Entity.{Entity}
use Rattle.st_net.specs.declared.entity.Var.{Var}
use Rattle.st_net.specs.declared.entity.Vals.{Vals}
use Rattle.st_net.specs.Entities.{is_same_entity, is_same_var, is_same_vals, value_of, vals_by}
use Rattle.st_net.specs.Groups.{Group, opening_of}

-- the row sets this variable
abbrev pub is_on : Row → Entity → Var → Bool
is_on row e v = is_same_entity row.entity e && is_same_var row.var v

-- the first choice, or else the second
abbrev pub first_of_two : Option ℕ → Option ℕ → Option ℕ
first_of_two (Some x) other = Some x
first_of_two None other = other

-- the value that the last of the rows on the variable gives it
abbrev pub row_on : List Row → Entity → Var → Option ℕ
row_on [] e v = None
row_on (row ∷ rows) e v = first_of_two (row_on rows e v) (if is_on row e v then Some row.value else None)

-- the value that the last proposal with a row on the variable gives it
abbrev pub last_write : List (List Row) → Entity → Var → Option ℕ
last_write [] e v = None
last_write (rows ∷ later) e v = first_of_two (last_write later e v) (row_on rows e v)

-- the variable's value after the proposals: the last write, or else the opening value
abbrev pub merge_of : Group → List (List Row) → Entity → Var → ℕ
merge_of g proposals e v = unwrap_or (last_write proposals e v) (value_of e (opening_of g e) v)

-- a target with these rows set
abbrev pub target_with : (Entity → Var → ℕ) → List Row → Entity → Var → ℕ
target_with target rows e v = unwrap_or (row_on rows e v) (target e v)

-- an entity's values by a target
abbrev pub vals_in : Group → (Entity → Var → ℕ) → Entity → Vals
vals_in g target e = vals_by e (opening_of g e) (target e)

-- whether rows alter an entity's values in a target
abbrev pub alters : Group → (Entity → Var → ℕ) → List Row → Entity → Bool
alters g target rows e = not (is_same_vals (vals_in g (target_with target rows) e) (vals_in g target e))

-- a set without the entities whose target values the rows alter
abbrev pub without_altered : Group → (Entity → Bool) → (Entity → Var → ℕ) → List Row → Entity → Bool
without_altered g up target rows = λ e. up e && not (alters g target rows e)

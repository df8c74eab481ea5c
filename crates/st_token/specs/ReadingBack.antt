-- What is printed of names, numbers, locks, variables and rows can stand in a line, and is read as what it was printed for.
use Rattle.std.specs.Prelude.{◌≡◌, ◌<◌, ◌^◌, ℕ, List, [], map, Option, Some, Result, Ok, true, decimal}
use Rattle.std.specs.List.{AllByRecursion}
use Rattle.st_text.specs.Words.{IsWord}
use Rattle.st_net.specs.declared.entity.Entity.{Entity}
use Rattle.st_net.specs.declared.entity.Var.{Var}
use Rattle.st_net.specs.declared.entity.Row.{Row}
use Rattle.st_net.specs.declared.entity.Prio.{Prio}
use Rattle.st_net.specs.Names.{is_name, place_of}
use Rattle.st_net.specs.Entities.{is_var_of}
use Rattle.st_net.specs.Groups.{Group, IsSound, IsEntityOf, find_in, name_of}
use Rattle.st_net.specs.Ranges.{is_in_range, are_apart}
use Rattle.st_token.specs.declared.fault.FaultKind.{FaultKind}
use Rattle.st_token.specs.Spelling.{known_name_in, entity_in, number_in, prio_in}
use Rattle.st_token.specs.Variables.{assigned_in, value_in, assignment_in, rows_in, variable_in}
use Rattle.st_token.specs.Words.{prio_word, value_word, assignment_word, variable_word}

-- the bytes can stand in a line, and are read as a value
pub record IsReadAs {X : Type 0} (word : List ℕ) (read : Result X FaultKind) (value : X) : Type 0 where
  pub word_is : IsWord word
  pub read_is : read ≡ Ok value

-- an entity has a name that finds it
pub record IsNamed (find : List ℕ → Option Entity) (name : List ℕ) (entity : Entity) : Type 0 where
  pub spelled : is_name name ≡ true
  pub found : find name ≡ Some entity

-- declared names, numbers of 32 bits, and locks
abbrev pub ReadsNamesAgain : Type 0
ReadsNamesAgain = (names : List (List ℕ)) (name : List ℕ) (place : ℕ) → is_name name ≡ true → place_of name names ≡ Some place → IsReadAs name (known_name_in names name) place

abbrev pub ReadsNumbersAgain : Type 0
ReadsNumbersAgain = (n : ℕ) → n < 2 ^ 32 → IsReadAs (decimal n) (number_in (decimal n)) n

abbrev pub ReadsLocksAgain : Type 0
ReadsLocksAgain = (prio : Prio) → IsReadAs (prio_word prio) (prio_in (prio_word prio)) prio

-- entities, variables, and assignments, by what finds an entity by its name
abbrev pub ReadsEntitiesAgain : Type 0
ReadsEntitiesAgain = (find : List ℕ → Option Entity) (name : List ℕ) (e : Entity) → IsNamed find name e → IsReadAs name (entity_in find name) e

abbrev pub ReadsVariablesAgain : Type 0
ReadsVariablesAgain = (find : List ℕ → Option Entity) (name : List ℕ) (e : Entity) (v : Var) → IsNamed find name e → is_var_of e v ≡ true
    → IsReadAs (variable_word name v) (variable_in find (variable_word name v)) (e, v)

abbrev pub ReadsAssignmentsAgain : Type 0
ReadsAssignmentsAgain = (find : List ℕ → Option Entity) (name : List ℕ) (row : Row) → IsNamed find name row.entity → is_in_range row.entity row.var row.value ≡ true
    → IsReadAs (assignment_word name row.var row.value) (assignment_in find (assignment_word name row.var row.value)) row

-- values of an entity's variables
abbrev pub ReadsValuesAgain : Type 0
ReadsValuesAgain = (row : Row) → is_in_range row.entity row.var row.value ≡ true → IsReadAs (value_word row.var row.value) (assigned_in row.entity (value_word row.var row.value)) row

abbrev pub ReadsOwnValuesAgain : Type 0
ReadsOwnValuesAgain = (e : Entity) (v : Var) (n : ℕ) → is_in_range e v n ≡ true → IsReadAs (value_word v n) (value_in e v (value_word v n)) n

-- an entity of a group that is built has a name that finds it
abbrev pub FindsByName : Type 0
FindsByName = (g : Group) (e : Entity) → IsSound g → IsEntityOf g e → IsNamed (find_in g) (name_of g e) e

-- a row whose entity has such a name, and whose value is one that its variable may have
pub record IsPrintable (find : List ℕ → Option Entity) (name : Entity → List ℕ) (row : Row) : Type 0 where
  pub named : IsNamed find (name row.entity) row.entity
  pub range : is_in_range row.entity row.var row.value ≡ true

-- rows on different variables
abbrev pub ReadsRowsAgain : Type 0
ReadsRowsAgain = (find : List ℕ → Option Entity) (name : Entity → List ℕ) (rows : List Row) → AllByRecursion (IsPrintable find name) rows → are_apart rows ≡ true
    → rows_in find [] (map (λ row. assignment_word (name row.entity) row.var row.value) rows) ≡ Ok rows

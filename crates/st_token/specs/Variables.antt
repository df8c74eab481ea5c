-- How variables and their values are read, and the rows of a line. Entities are found by a function of their names. Each token gives what it stands
-- for, or the first kind that applies to it.
use Rattle.std.specs.Prelude.{◌≡◌, true, ℕ, List, [], ◌∷◌, ◌++◌, if◌then◌else◌, Option, Some, None, Result, Ok, Err, ok_or, bytes_eq, codes}
use Rattle.st_net.specs.declared.entity.Entity.{Entity}
use Rattle.st_net.specs.declared.entity.Entity.TheVariants.{Device, Link}
use Rattle.st_net.specs.declared.entity.Var.{Var}
use Rattle.st_net.specs.declared.entity.Var.TheVariants.{Power, Firmware, Config, Routing, LinkPower, Iface}
use Rattle.st_net.specs.declared.entity.Row.{Row}
use Rattle.st_net.specs.Ranges.{is_in_range, is_free_of}
use Rattle.st_token.specs.declared.fault.FaultKind.{FaultKind}
use Rattle.st_token.specs.declared.fault.FaultKind.TheVariants as kinds
use Rattle.st_token.specs.Steps.{◌>>=◌}
use Rattle.st_token.specs.Places.{cut_at}
use Rattle.st_token.specs.Spelling.{entity_in, number_in}
use Rattle.st_token.specs.Words.{var_word}

-- the variable of an entity with this name
abbrev pub var_named : Entity → List ℕ → Option Var
var_named (Device d) text =
    if bytes_eq text (codes "power") then Some Power else (
    if bytes_eq text (codes "firmware") then Some Firmware else (
    if bytes_eq text (codes "config") then Some Config else (
    if bytes_eq text (codes "routing") then Some Routing else None)))
var_named (Link l) text =
    if bytes_eq text (codes "power") then Some LinkPower else (
    if bytes_eq text (codes "iface") then Some Iface else None)

abbrev pub var_in : Entity → List ℕ → Result Var FaultKind
var_in e text = ok_or (var_named e text) kinds.Value

-- a row sets a value that its variable may have
abbrev pub IsInRange : Row → Type 0
IsInRange row = is_in_range row.entity row.var row.value ≡ true

-- VAR=NUMBER by its parts: the variable, then the number, then its range
unfoldable pub set_in : Entity → List ℕ → List ℕ → Result Row FaultKind
set_in e var number = do
  v ← var_in e var
  n ← number_in number
  if is_in_range e v n then Ok (record { entity = e; var = v; value = n }) else Err kinds.Value

-- a VAR whose `=` is missing
unfoldable pub unset_in : Entity → List ℕ → Result Row FaultKind
unset_in e rest = do
  v ← var_in e rest
  Err kinds.Value

abbrev pub assigned_by : Entity → List ℕ → Option (List ℕ × List ℕ) → Result Row FaultKind
assigned_by e rest None = unset_in e rest
assigned_by e rest (Some parts) = set_in e parts.0 parts.1

-- what is set of an entity: VAR ends at the first `=`
abbrev pub assigned_in : Entity → List ℕ → Result Row FaultKind
assigned_in e rest = assigned_by e rest (cut_at 61 rest)

-- VAR=NUMBER on this variable of an entity: another VAR is `value` before the number is looked at
unfoldable pub number_of_var_in : Entity → Var → List ℕ → Result ℕ FaultKind
number_of_var_in e v number = do
  n ← number_in number
  if is_in_range e v n then Ok n else Err kinds.Value

abbrev pub value_by : Entity → Var → Option (List ℕ × List ℕ) → Result ℕ FaultKind
value_by e v None = Err kinds.Value
value_by e v (Some parts) = if bytes_eq parts.0 (var_word v) then number_of_var_in e v parts.1 else Err kinds.Value

abbrev pub value_in : Entity → Var → List ℕ → Result ℕ FaultKind
value_in e v token = value_by e v (cut_at 61 token)

-- VAR=NUMBER of an entity, on a variable that these rows do not set
unfoldable pub new_value_in : Entity → List Row → List ℕ → Result Row FaultKind
new_value_in e set token = do
  row ← assigned_in e token
  if is_free_of row.entity row.var set then Ok row else Err kinds.Twice

-- VAR=NUMBERs of an entity behind rows that the line set before them, each on a variable that these do not set
unfoldable pub values_in : Entity → List Row → List (List ℕ) → Result (List Row) FaultKind
values_in e set [] = Ok set
values_in e set (token ∷ tokens) = do
  row ← new_value_in e set token
  values_in e (set ++ row ∷ []) tokens

module _ (find : List ℕ → Option Entity) where
  unfoldable pub dotted_in : List ℕ → List ℕ → Result Row FaultKind
  dotted_in name rest = do
    e ← entity_in find name
    assigned_in e rest

  -- a token without `.` is the entity's name alone
  unfoldable pub undotted_in : List ℕ → Result Row FaultKind
  undotted_in token = do
    e ← entity_in find token
    Err kinds.Value

  abbrev pub assignment_by : List ℕ → Option (List ℕ × List ℕ) → Result Row FaultKind
  assignment_by token None = undotted_in token
  assignment_by token (Some parts) = dotted_in parts.0 parts.1

  -- an ASSIGNMENT, whatever was set before: the name ends at the first `.`
  abbrev pub assignment_in : List ℕ → Result Row FaultKind
  assignment_in token = assignment_by token (cut_at 46 token)

  -- an ASSIGNMENT on a variable that these rows do not set
  unfoldable pub new_assignment_in : List Row → List ℕ → Result Row FaultKind
  new_assignment_in set token = do
    row ← assignment_in token
    if is_free_of row.entity row.var set then Ok row else Err kinds.Twice

  -- ASSIGNMENTs behind rows that the line set before them, each on a variable that these do not set
  unfoldable pub rows_in : List Row → List (List ℕ) → Result (List Row) FaultKind
  rows_in set [] = Ok set
  rows_in set (token ∷ tokens) = do
    row ← new_assignment_in set token
    rows_in (set ++ row ∷ []) tokens

  unfoldable pub dotted_variable_in : List ℕ → List ℕ → Result (Entity × Var) FaultKind
  dotted_variable_in name rest = do
    e ← entity_in find name
    v ← var_in e rest
    Ok (e, v)

  unfoldable pub undotted_variable_in : List ℕ → Result (Entity × Var) FaultKind
  undotted_variable_in token = do
    e ← entity_in find token
    Err kinds.Value

  abbrev pub variable_by : List ℕ → Option (List ℕ × List ℕ) → Result (Entity × Var) FaultKind
  variable_by token None = undotted_variable_in token
  variable_by token (Some parts) = dotted_variable_in parts.0 parts.1

  -- a VARIABLE: the name ends at the first `.`
  abbrev pub variable_in : List ℕ → Result (Entity × Var) FaultKind
  variable_in token = variable_by token (cut_at 46 token)

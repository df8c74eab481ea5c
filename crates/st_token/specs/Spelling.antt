-- How names, numbers, entities and fixed words are read: each token gives what it stands for, or the first kind that applies to it.
use Rattle.std.specs.Prelude.{ℕ, List, [], ◌∷◌, Bool, false, ◌==◌, ◌&&◌, nat_le, nat_lt, if◌then◌else◌, Option, Result, Ok, Err, ok_or, bytes_eq, codes}
use Rattle.st_text.specs.Numbers.{number_of}
use Rattle.st_net.specs.declared.entity.Entity.{Entity}
use Rattle.st_net.specs.declared.entity.Prio.{Prio}
use Rattle.st_net.specs.declared.entity.Prio.TheVariants.{Low, High}
use Rattle.st_net.specs.Names.{is_name, place_of}
use Rattle.st_token.specs.declared.fault.FaultKind.{FaultKind}
use Rattle.st_token.specs.declared.fault.FaultKind.TheVariants as kinds
use Rattle.st_token.specs.Steps.{◌>>=◌}

-- a NAME
abbrev pub name_in : List ℕ → Result (List ℕ) FaultKind
name_in token = if is_name token then Ok token else Err kinds.Name

-- a new name, which is taken already or not
unfoldable pub new_name_in : Bool → List ℕ → Result (List ℕ) FaultKind
new_name_in taken token = do
  name ← name_in token
  if taken then Err kinds.Twice else Ok name

-- the place of a name that is declared
unfoldable pub known_name_in : List (List ℕ) → List ℕ → Result ℕ FaultKind
known_name_in names token = do
  name ← name_in token
  ok_or (place_of name names) kinds.Unknown

-- the device or the link of a name that is declared, by what finds one
unfoldable pub entity_in : (List ℕ → Option Entity) → List ℕ → Result Entity FaultKind
entity_in find token = do
  name ← name_in token
  ok_or (find name) kinds.Unknown

-- a NUMBER
abbrev pub number_in : List ℕ → Result ℕ FaultKind
number_in token = ok_or (number_of token) kinds.Number

-- a NUMBER of a range
unfoldable pub number_within : ℕ → ℕ → List ℕ → Result ℕ FaultKind
number_within low high token = do
  n ← number_in token
  if nat_le low n && nat_le n high then Ok n else Err kinds.Number

-- a NUMBER that is at least this one, and one that is above it
unfoldable pub number_from : ℕ → List ℕ → Result ℕ FaultKind
number_from low token = do
  n ← number_in token
  if nat_le low n then Ok n else Err kinds.Number

unfoldable pub number_above : ℕ → List ℕ → Result ℕ FaultKind
number_above low token = do
  n ← number_in token
  if nat_lt low n then Ok n else Err kinds.Number

-- `low` or `high`
abbrev pub prio_in : List ℕ → Result Prio FaultKind
prio_in token =
    if bytes_eq token (codes "low") then Ok Low else (
    if bytes_eq token (codes "high") then Ok High else Err kinds.Value)

-- this fixed word
abbrev pub word_in : List ℕ → List ℕ → Result (Unit {0}) FaultKind
word_in word token = if bytes_eq token word then Ok tt else Err kinds.Value

-- a line that begins with this word is skipped
abbrev pub is_comment : List ℕ → Bool
is_comment [] = false
is_comment (b ∷ bs) = b == 35

-- How what an entry names is spelled: applications, variables, rows, values, devices. What the group or the applications do not have is
-- spelled with no bytes in place of its name.
use Rattle.std.specs.Prelude.{ℕ, List, [], map, slice_index_or, Option, Some, None}
use Rattle.st_text.specs.Printed.{variable_word, assignment_word, value_word}
use Rattle.st_net.specs.declared.entity.AppId.{AppId}
use Rattle.st_net.specs.declared.entity.Entity.{Entity}
use Rattle.st_net.specs.declared.entity.Entity.TheVariants.{Device}
use Rattle.st_net.specs.declared.entity.Row.{Row}
use Rattle.st_net.specs.declared.entity.Vals.{Vals}
use Rattle.st_net.specs.declared.entity.Var.{Var}
use Rattle.st_net.specs.Entities.{value_of, vars_of}
use Rattle.st_net.specs.Groups.{Group, name_of}
use Rattle.st_token.specs.Words.{var_word}
use Rattle.st_entry.specs.Keywords.{nobody_word}

-- the words of a line, or a part of them
abbrev pub Words : Type 0
Words = List (List ℕ)

-- an application's name, by its number, and the name of a lock's holder, or the word for nobody
abbrev pub app_word : List (List ℕ) → AppId → List ℕ
app_word apps app = slice_index_or apps app.0 []

abbrev pub holder_word : List (List ℕ) → Option AppId → List ℕ
holder_word apps None = nobody_word
holder_word apps (Some holder) = app_word apps holder

-- NAME.VAR
abbrev pub variable : Group → Entity → Var → List ℕ
variable g e var = variable_word (name_of g e) (var_word var)

-- NAME.VAR=NUMBER
abbrev pub assignment : Group → Row → List ℕ
assignment g row = assignment_word (name_of g row.entity) (var_word row.var) row.value

abbrev pub assignment_words : Group → List Row → Words
assignment_words g rows = map (assignment g) rows

-- VAR=NUMBER for each variable of an entity, in order
abbrev pub value_words : Entity → Vals → Words
value_words e vals = map (λ var. value_word (var_word var) (value_of e vals var)) (vars_of e)

abbrev pub device_words : Group → List ℕ → Words
device_words g devices = map (λ d. name_of g (Device d)) devices

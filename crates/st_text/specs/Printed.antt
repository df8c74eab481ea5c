-- What a printer adds to a text: the bytes of the words that it is given.
use Rattle.std.specs.Prelude.{ℕ, List, ◌∷◌, ◌++◌, decimal}
use Rattle.st_text.specs.declared.words.Word.{Word}
use Rattle.st_text.specs.declared.words.Word.TheVariants.{Plain, Number, Variable, Assignment, Value}

-- VAR=NUMBER, NAME.VAR=NUMBER and NAME.VAR
abbrev pub value_word : List ℕ → ℕ → List ℕ
value_word var value = var ++ 61 ∷ decimal value

abbrev pub assignment_word : List ℕ → List ℕ → ℕ → List ℕ
assignment_word name var value = name ++ 46 ∷ value_word var value

abbrev pub variable_word : List ℕ → List ℕ → List ℕ
variable_word name var = name ++ 46 ∷ var

-- the bytes of a word
abbrev pub bytes_of : Word → List ℕ
bytes_of (Plain bytes) = bytes.now
bytes_of (Number n) = decimal n
bytes_of (Variable name var) = variable_word name.now var.now
bytes_of (Assignment name var value) = assignment_word name.now var.now value
bytes_of (Value var value) = value_word var.now value

-- How many lines of a text are those of its document.
use Rattle.std.specs.Prelude.{◌≡◌, ℕ, List, Bool, true, false, length, map}
use Rattle.st_text.specs.declared.line_places.Line.{Line}
use Rattle.st_text.specs.Lines.{line_in}
use Rattle.st_grammar.specs.Reading.{first_journal}

-- all of them, or with journals those before the first that begins one
abbrev pub IsCount : Bool → List ℕ → List Line → ℕ → Type 0
IsCount true bytes places n = n ≡ first_journal (map (line_in bytes) places)
IsCount false bytes places n = n ≡ length places

-- What lines declare, one after another, or the first bad one and its kind. What a line makes of what the lines before it declared is a parameter.
use Rattle.std.specs.Prelude.{◌≡◌, ℕ, ◌+◌, List, [], ◌∷◌, ◌++◌, reverse, Option, Some, None, Result, Ok, Err, length}
use Rattle.st_token.specs.declared.fault.FaultKind.{FaultKind}
use Rattle.st_token.specs.declared.fault.LineFault.{LineFault}
use Rattle.st_token.specs.Steps.{◌>>=◌}

-- a kind, as the fault of a line
abbrev pub on_line : {D : Type 0} → ℕ → Result D FaultKind → Result D LineFault
on_line n (Ok d) = Ok d
on_line n (Err kind) = Err (record { line = n; kind = kind })

-- reading ended with this, or with a fault
abbrev pub Ends : {D : Type 0} → Option LineFault → D → Result D LineFault → Type 0
Ends None d read = read ≡ Ok d
Ends (Some fault) d read = read ≡ Err fault

module _ {D : Type 0} (line_of : D → List ℕ → Result D FaultKind) where
  -- what is declared after these lines, the first of which has a number
  abbrev pub read_on : D → ℕ → List (List ℕ) → Result D LineFault
  read_on d n [] = Ok d
  read_on d n (line ∷ lines) = on_line n (line_of d line) >>= λ next. read_on next (n + 1) lines

  -- over what was declared first, these lines, one after another, declare the last: each is good over what those before it declare. The newest stands
  -- first
  abbrev pub Declares : D → List (List ℕ) → D → Type 0
  Declares start [] d = d ≡ start
  Declares start (line ∷ before) d = (last : D) × Declares start before last × (line_of last line ≡ Ok d)

  -- no line is bad, and together they declare this. The lines stand newest first
  pub record AreGood (start : D) (lines : List (List ℕ)) (draft : D) : Type 0 where
    pub before : List (List ℕ)
    pub lines_are : lines ≡ reverse before
    pub declares : Declares start before draft

  -- the first bad line, of lines that are numbered from `first`: those before it are good, and it has this kind over what they declare. The lines
  -- before it stand newest first
  pub record IsFirstBad (start : D) (first : ℕ) (lines : List (List ℕ)) (fault : LineFault) : Type 0 where
    pub before : List (List ℕ)
    pub bad : List ℕ
    pub after : List (List ℕ)
    pub draft : D
    pub lines_are : lines ≡ reverse before ++ bad ∷ after
    pub declares : Declares start before draft
    pub kind : line_of draft bad ≡ Err fault.kind
    pub number : fault.line ≡ first + length before

  -- reading ended behind the last line with this, or at its first bad line
  abbrev pub Tells : D → ℕ → List (List ℕ) → Option LineFault → D → Type 0
  Tells start first lines None d = AreGood start lines d
  Tells start first lines (Some fault) d = IsFirstBad start first lines fault

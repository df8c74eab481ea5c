-- What reading gives is what the lines declare, one after another, or the first bad one.
use Rattle.std.proofs.Common.{◌≡◌, ℕ, ◌+◌, List, [], ◌∷◌, ◌++◌, reverse, length, Result, Ok, Err, Option, Some, None, ◌∙◌, ap, subst, refl, arith}
use Rattle.std.proofs.lemmas.List.{append-nil, append_assoc, reverse-append}
use Rattle.st_token.specs.declared.fault.FaultKind.{FaultKind}
use Rattle.st_token.specs.declared.fault.LineFault.{LineFault}
use Rattle.st_token.specs.Steps.{◌>>=◌}
use Rattle.st_token.specs.Reading.{on_line, read_on, Declares, AreGood, IsFirstBad, Ends, Tells}

module _ {D : Type 0} (line_of : D → List ℕ → Result D FaultKind) (start : D) (first : ℕ) where
  -- what reading gives, in the words of the lines
  abbrev pub Explains : List (List ℕ) → Result D LineFault → Type 0
  Explains lines (Ok d) = AreGood line_of start lines d
  Explains lines (Err fault) = IsFirstBad line_of start first lines fault

  -- what is known of the lines behind this one, whatever stands before them
  abbrev ExplainsRest : List (List ℕ) → Type 0
  ExplainsRest rest = (before : List (List ℕ)) (d : D) → Declares line_of start before d → Explains (reverse before ++ rest) (read_on line_of d (first + length before) rest)

  explain_line : (line : List ℕ) (rest : List (List ℕ)) (before : List (List ℕ)) (d : D) (r : Result D FaultKind) → line_of d line ≡ r → Declares line_of start before d → ExplainsRest rest
      → Explains (reverse before ++ line ∷ rest) (on_line (first + length before) r >>= λ next. read_on line_of next (first + length before + 1) rest)
  explain_line line rest before d (Ok next) e h others =
      let lines : reverse (line ∷ before) ++ rest ≡ reverse before ++ line ∷ rest = ap (λ (ls : List (List ℕ)). ls ++ rest) (reverse-append (line ∷ []) before) ∙ append_assoc (reverse before) (line ∷ []) rest in
      let number : first + length (line ∷ before) ≡ first + length before + 1 = omega arith in
      subst (λ (ls : List (List ℕ)). Explains ls (read_on line_of next (first + length before + 1) rest)) lines
      (subst (λ (n : ℕ). Explains (reverse (line ∷ before) ++ rest) (read_on line_of next n rest)) number (others (line ∷ before) next (d, h, e)))
  explain_line line rest before d (Err kind) e h others = record { before = before; bad = line; after = rest; draft = d; lines_are = refl; declares = h; kind = e; number = refl }

  explain_on : (rest : List (List ℕ)) → ExplainsRest rest
  explain_on [] before d h = record { before = before; lines_are = append-nil (reverse before); declares = h }
  explain_on (line ∷ rest) before d h = explain_line line rest before d (line_of d line) refl h (explain_on rest)

  pub explained : (lines : List (List ℕ)) → Explains lines (read_on line_of start first lines)
  explained lines = subst (λ (n : ℕ). Explains lines (read_on line_of start n lines)) (omega arith) (explain_on lines [] start refl)

  pub tells : (lines : List (List ℕ)) (end : Option LineFault) (d : D) → Ends end d (read_on line_of start first lines) → Tells line_of start first lines end d
  tells lines None d e = subst (Explains lines) e (explained lines)
  tells lines (Some fault) d e = subst (Explains lines) e (explained lines)

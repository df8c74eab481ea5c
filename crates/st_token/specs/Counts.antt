-- How many tokens stand behind a line's first word: so many, or `count`.
use Rattle.std.specs.Prelude.{ℕ, List, [], ◌∷◌, Result, Ok, Err}
use Rattle.st_token.specs.declared.fault.FaultKind.{FaultKind}
use Rattle.st_token.specs.declared.fault.FaultKind.TheVariants as kinds

-- so many tokens behind the first word, or `count`
abbrev pub one_of : List (List ℕ) → Result (List ℕ) FaultKind
one_of (a ∷ []) = Ok a
one_of _ = Err kinds.Count

abbrev pub two_of : List (List ℕ) → Result (List ℕ × List ℕ) FaultKind
two_of (a ∷ b ∷ []) = Ok (a, b)
two_of _ = Err kinds.Count

abbrev pub three_of : List (List ℕ) → Result (List ℕ × List ℕ × List ℕ) FaultKind
three_of (a ∷ b ∷ c ∷ []) = Ok (a, b, c)
three_of _ = Err kinds.Count

abbrev pub four_of : List (List ℕ) → Result (List ℕ × List ℕ × List ℕ × List ℕ) FaultKind
four_of (a ∷ b ∷ c ∷ d ∷ []) = Ok (a, b, c, d)
four_of _ = Err kinds.Count

-- no token
abbrev pub none_of : List (List ℕ) → Result (Unit {0}) FaultKind
none_of [] = Ok tt
none_of _ = Err kinds.Count

-- one token and no or more others, one and one or more others, and two and one or more others
abbrev pub one_and_more_of : List (List ℕ) → Result (List ℕ × List (List ℕ)) FaultKind
one_and_more_of (a ∷ more) = Ok (a, more)
one_and_more_of [] = Err kinds.Count

abbrev pub one_and_some_of : List (List ℕ) → Result (List ℕ × List (List ℕ)) FaultKind
one_and_some_of (a ∷ b ∷ more) = Ok (a, b ∷ more)
one_and_some_of _ = Err kinds.Count

abbrev pub two_and_some_of : List (List ℕ) → Result (List ℕ × List ℕ × List (List ℕ)) FaultKind
two_and_some_of (a ∷ b ∷ c ∷ more) = Ok (a, b, c ∷ more)
two_and_some_of _ = Err kinds.Count

-- three tokens and no or more others
abbrev pub three_and_more_of : List (List ℕ) → Result (List ℕ × List ℕ × List ℕ × List (List ℕ)) FaultKind
three_and_more_of (a ∷ b ∷ c ∷ more) = Ok (a, b, c, more)
three_and_more_of _ = Err kinds.Count

-- one or more tokens
abbrev pub some_of : List (List ℕ) → Result (List (List ℕ)) FaultKind
some_of (a ∷ more) = Ok (a ∷ more)
some_of [] = Err kinds.Count

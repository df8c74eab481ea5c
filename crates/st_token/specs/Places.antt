-- Where a token is cut.
use Rattle.std.specs.Prelude.{ℕ, List, [], ◌∷◌, ◌==◌, if◌then◌else◌, Option, Some, None, option_map}

-- what stands before the first byte that is this one, and what stands behind it
abbrev pub cut_at : ℕ → List ℕ → Option (List ℕ × List ℕ)
cut_at c [] = None
cut_at c (b ∷ bs) = if b == c then Some ([], bs) else option_map (λ p. (b ∷ p.0, p.1)) (cut_at c bs)

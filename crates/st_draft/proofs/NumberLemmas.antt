-- An index of numbers, after one more.
use Rattle.std.proofs.Common.{◌≡◌, ℕ, List, [], ◌∷◌, ◌++◌, false, cond, ◌==◌, refl}
use Rattle.std.specs.List.{list_any}
use Rattle.st_grammar.specs.Draft.{is_told}

pub number_added : (keys more : List ℕ) (n : ℕ) → more ≡ cond (list_any (λ m. n == m) keys) keys (keys ++ n ∷ []) → is_told n keys ≡ false → more ≡ keys ++ n ∷ []
number_added keys more n m new = rw (m, new) refl

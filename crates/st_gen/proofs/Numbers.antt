-- What holds of each number below a bound.
use Rattle.std.proofs.Common.{◌≡◌, ◌∙◌, sym, subst, ℕ, zero, suc, ◌+◌, ◌<◌, ◌≤◌, List, [], ◌∷◌, get_or, arith}
use Rattle.std.specs.Prelude.{true, Bool, All, flat_map}
use Rattle.std.proofs.Common.{inl, inr}
use Rattle.std.specs.List.{range_with_len, list_all}
use Rattle.std.proofs.lemmas.List.Elements.{All-nil, All-cons, All-append, All-from_get_or, All-head, All-tail}
use Rattle.std.proofs.lemmas.List.FromFn.{length-range_with_len, get_or-range_with_len}
use Rattle.std.proofs.Math.Nat.{eq-or-lt_of_le}
use Rattle.st_net.proofs.Tests.{both}
use Rattle.st_gen.specs.FatTrees.{numbers}

from : (p : ℕ → Bool) (a n k : ℕ) → list_all p (range_with_len a n) ≡ true → a ≤ k → k < a + n → p k ≡ true
from p a zero k all low high = absurd (omega arith)
from p a (suc n) k all low high =
    let parts : (p a ≡ true) × (list_all p (range_with_len (a + 1) n) ≡ true) = both (p a) (list_all p (range_with_len (a + 1) n)) all in
    elim (eq-or-lt_of_le low) [
      | inl is ↦ subst (λ (m : ℕ). p m ≡ true) is (parts.0)
      | inr above ↦ from p (a + 1) n k (parts.1) (omega arith) (omega arith)
    ]

-- a test that all numbers below n pass, one of them passes
pub passes : (p : ℕ → Bool) (n k : ℕ) → list_all p (numbers n) ≡ true → k < n → p k ≡ true
passes p n k all high = from p 0 n k all (omega arith) (omega arith)

-- what holds of each number below n, all of them have
pub all_below : (P : ℕ → Type 0) (n : ℕ) → ((k : ℕ) → k < n → P k) → All P (numbers n)
all_below P n each = All-from_get_or P (numbers n) 0 (λ i within.
    let low : i < n = omega (arith, length-range_with_len 0 n) in
    let is : get_or (numbers n) i 0 ≡ 0 + i = get_or-range_with_len 0 n i 0 low in
    let zero_more : 0 + i ≡ i = omega arith in
    subst P (sym (is ∙ zero_more)) (each i low))

pub all_of : {X : Type 0} (P : X → Type 0) → ((x : X) → P x) → (xs : List X) → All P xs
all_of P each [] = All-nil P
all_of P each (x ∷ xs) = All-cons P x xs (each x) (all_of P each xs)

pub all_joined : {X Y : Type 0} (P : X → Type 0) (f : Y → List X) (ys : List Y) → All (λ y. All P (f y)) ys → All P (flat_map f ys)
all_joined P f [] all = All-nil P
all_joined {X} {Y} P f (y ∷ ys) all = All-append P (f y) (flat_map f ys) (All-head (λ y. All P (f y)) y ys all) (all_joined P f ys (All-tail (λ y. All P (f y)) y ys all))

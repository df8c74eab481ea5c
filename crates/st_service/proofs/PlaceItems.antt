-- What holds of each place of a pass, and what its lists sum to, where one place was written or added.
use Rattle.std.proofs.Common.{◌≡◌, ℕ, zero, suc, ◌+◌, ◌<◌, List, [], ◌∷◌, ◌++◌, length, get_or, set, sum_by, ap, sym, subst, arith}
use Rattle.std.proofs.lemmas.List.Sums.{sum_by-set, sum_by-append, sum_by-cons}

-- what holds of each item by its number, and of the one that was written
pub items_set : {X : Type 0} (P : ℕ → X → Type 0) (xs : List X) (i : ℕ) (y : X) → i < length xs
    → ((k : ℕ) (d : X) → k < length xs → P k (get_or xs k d)) → P i y → (k : ℕ) (d : X) → k < length (set xs i y) → P k (get_or (set xs i y) k d)
items_set P [] i y lt all here k d low = absurd (omega (arith, lt))
items_set P (x ∷ xs) zero y lt all here zero d low = here
items_set P (x ∷ xs) zero y lt all here (suc k) d low = all (suc k) d low
items_set P (x ∷ xs) (suc i) y lt all here zero d low = all 0 d (omega arith)
items_set P (x ∷ xs) (suc i) y lt all here (suc k) d low = items_set (λ n. P (suc n)) xs i y (omega (arith, lt))
    (λ j e less. all (suc j) e (omega (arith, less))) here k d (omega (arith, low))

-- the units follow what was added to the list that was written
pub units_set : {X : Type 0} (f : X → ℕ) (xs : List X) (i : ℕ) (x y : X) (before after : ℕ) → i < length xs → x ≡ get_or xs i x
    → before ≡ sum_by f xs → after + f x ≡ before + f y → after ≡ sum_by f (set xs i y)
units_set f xs i x y before after lt at was now = let s = sum_by-set f xs i y x lt in omega (arith, s, ap f at, was, now)

-- the units stay where the place that is added has nothing
pub units_more : {X : Type 0} (f : X → ℕ) (xs : List X) (x : X) (before : ℕ) → f x ≡ 0 → before ≡ sum_by f xs → before ≡ sum_by f (xs ++ x ∷ [])
units_more f xs x before none was = let all = sum_by-append f xs (x ∷ []) in let one = sum_by-cons f x [] in omega (arith, all, one, none, was)

-- a look changes neither what holds of each place nor what the lists sum to
pub look_stays : {X : Type 0} (P : ℕ → X → Type 0) (f : X → ℕ) (xs : List X) (i : ℕ) (x y : X) (parts amount : ℕ) → i < length xs → x ≡ get_or xs i x
    → ((k : ℕ) (d : X) → k < length xs → P k (get_or xs k d)) × (parts ≡ 1) × (amount ≡ sum_by f xs) → (P i x → P i y) → f y ≡ f x
    → ((k : ℕ) (d : X) → k < length (set xs i y) → P k (get_or (set xs i y) k d)) × (parts ≡ 1) × (amount ≡ sum_by f (set xs i y))
look_stays P f xs i x y parts amount lt at inv goes same = (
  items_set P xs i y lt inv.0 (goes (subst (P i) (sym at) (inv.0 i x lt))),
  inv.1,
  units_set f xs i x y amount amount lt at inv.2 (omega (arith, same)),
)

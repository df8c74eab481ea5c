-- Lists whose items are changed one after another.
use Rattle.std.proofs.Common.{◌≡◌, ℕ, zero, suc, ◌<◌, Bool, true, false, List, [], ◌∷◌, ◌++◌, length, refl, ap, sym, ◌∙◌, arith, set, take}
use Rattle.std.specs.Prelude.{All, map, replicate, slice_get, slice_index_or, Option, Some, None, if◌then◌else◌}
use Rattle.std.proofs.Math.Seq.{take-append_seam}
use Rattle.st_serial.specs.Serial.{changed_at}

-- a list whose item of a number is changed is as long as it was
pub changed_count : {X : Type 0} (n : ℕ) (f : X → X) (xs : List X) → length (changed_at n f xs) ≡ length xs
changed_count n f [] = refl
changed_count zero f (x ∷ xs) = refl
changed_count (suc n) f (x ∷ xs) = ap suc (changed_count n f xs)

-- what holds of one item holds of the list of it
pub one_fits : {X : Type 0} (P : X → Type 0) (x : X) → P x → All P (x ∷ [])
one_fits P x is zero d low = is
one_fits P x is (suc k) d low = absurd (omega (arith, low))

-- an item of a number is changed by setting it
pub at_set : {X : Type 0} (n : ℕ) (f : X → X) (xs : List X) (d : X) → n < length xs → set xs n (f (slice_index_or xs n d)) ≡ changed_at n f xs
at_set n f [] d low = absurd (omega arith)
at_set zero f (x ∷ xs) d low = refl
at_set (suc n) f (x ∷ xs) d low = ap (λ ys. x ∷ ys) (at_set n f xs d (omega arith))

-- a change of an item to itself changes nothing, as to set it to itself
pub changed_same : {X : Type 0} (n : ℕ) (f : X → X) (xs : List X) (d : X) → n < length xs → f (slice_index_or xs n d) ≡ slice_index_or xs n d → set xs n (slice_index_or xs n d) ≡ changed_at n f xs
changed_same n f xs d low same = ap (set xs n) (sym same) ∙ at_set n f xs d low

-- what a slice of the whole list became is the whole list
pub whole : {X : Type 0} (n : ℕ) (xs rest : List X) → n ≡ length xs → take n (xs ++ rest) ≡ xs
whole n xs rest is = ap (λ m. take m (xs ++ rest)) is ∙ take-append_seam xs rest

-- what holds of both values that a test chooses between holds of the one that it chooses
pub by_test : {X : Type 0} (P : X → Type 0) (b : Bool) (x y : X) → P x → P y → P (if b then x else y)
by_test P true x y first second = first
by_test P false x y first second = second

-- what holds of the value, if there is one
abbrev pub OfSome : {X : Type 0} → (X → Type 0) → Option X → Type 0
OfSome P None = Unit {0}
OfSome P (Some x) = P x

-- what follows of each value follows of the one that there is
pub of_some : {X : Type 0} (P Q : X → Type 0) (o : Option X) → ((x : X) → P x → Q x) → OfSome P o → OfSome Q o
of_some P Q None gives is = tt
of_some P Q (Some x) gives is = gives x is

-- what holds of each item holds of the one of a number
pub some_in : {X : Type 0} (P : X → Type 0) (xs : List X) (i : ℕ) → All P xs → OfSome P (slice_get xs i)
some_in P [] i all = tt
some_in P (x ∷ xs) zero all = all 0 x (omega arith)
some_in P (x ∷ xs) (suc i) all = some_in P xs i (λ k d low. all (suc k) d (omega (arith, low)))

-- as many equal items as a list has
pub replicate_map : {X Y : Type 0} (y : Y) (xs : List X) → replicate (length xs) y ≡ map (λ x. y) xs
replicate_map y [] = refl
replicate_map y (x ∷ xs) = ap (λ ys. y ∷ ys) (replicate_map y xs)

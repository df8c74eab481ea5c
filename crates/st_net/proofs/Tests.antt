-- What tests on entities, values and lists say.
use Rattle.std.proofs.Common.{◌≡◌, ℕ, zero, suc, ◌<◌, ◌≤◌, List, [], ◌∷◌, ◌++◌, ◌+◌, length, Some, None, refl, inl, inr, arith}
use Rattle.std.specs.Prelude.{Bool, true, false, ◌&&◌, ◌||◌, ◌==◌, not, nat_le, nat_lt, pred, slice_get, if◌then◌else◌, ◌⊎◌}
use Rattle.std.proofs.lemmas.Bool.Decides.{nat_tests}
use Rattle.st_net.specs.declared.entity.Entity.{Entity}
use Rattle.st_net.specs.declared.entity.Entity.TheVariants.{Device, Link}
use Rattle.st_net.specs.declared.entity.Vals.{Vals}
use Rattle.st_net.specs.Entities.{is_same_entity, is_same_vals}
use Rattle.st_net.specs.Numbered.{nth}

pub same_entity : (a b : Entity) → is_same_entity a b ≡ true → a ≡ b
same_entity (Device i) (Device j) same = grind (arith, nat_tests)
same_entity (Link i) (Link j) same = grind (arith, nat_tests)
same_entity (Device i) (Link j) same = cc
same_entity (Link i) (Device j) same = cc

pub same_self : (a : Entity) → is_same_entity a a ≡ true
same_self (Device i) = grind (arith, nat_tests)
same_self (Link i) = grind (arith, nat_tests)

pub both : (p q : Bool) → (p && q) ≡ true → (p ≡ true) × (q ≡ true)
both true true is = (refl, refl)
both true false is = cc
both false q is = cc

pub four_true : (a b c d : Bool) → (a && b && c && d) ≡ true → (a ≡ true) × (b ≡ true) × (c ≡ true) × (d ≡ true)
four_true true true true true e = (refl, refl, refl, refl)
four_true false b c d e = cc
four_true true false c d e = cc
four_true true true false d e = cc
four_true true true true false e = cc

pub neither : (p q : Bool) → (p || q) ≡ false → (p ≡ false) × (q ≡ false)
neither true q is = cc
neither false q is = (refl, is)

pub turned : (b : Bool) → not b ≡ true → b ≡ false
turned true is = cc
turned false is = refl

pub not_both : (p q : Bool) → (p && q) ≡ false → q ≡ true → p ≡ false
not_both true true is that = cc
not_both true false is that = cc
not_both false q is that = refl

pub equal_numbers : (m n : ℕ) → (m == n) ≡ true → m ≡ n
equal_numbers m n is = grind (arith, nat_tests)

pub equal_self : (n : ℕ) → (n == n) ≡ true
equal_self n = grind (arith, nat_tests)

pub at_most : (m n : ℕ) → m ≤ n → nat_le m n ≡ true
at_most m n is = grind (arith, nat_tests)

pub at_most_is : (m n : ℕ) → nat_le m n ≡ true → m ≤ n
at_most_is m n is = grind (arith, nat_tests)

pub more : (m n : ℕ) → n < m → nat_le m n ≡ false
more m n is = grind (arith, nat_tests)

pub more_is : (m n : ℕ) → nat_le m n ≡ false → n < m
more_is m n is = grind (arith, nat_tests)

pub not_less : (m n : ℕ) → nat_lt m n ≡ false → n ≤ m
not_less m n is = grind (arith, nat_tests)

pub less : (m n : ℕ) → m < n → nat_lt m n ≡ true
less m n is = grind (arith, nat_tests)

pub less_is : (m n : ℕ) → nat_lt m n ≡ true → m < n
less_is m n is = grind (arith, nat_tests)

abbrev vals_made : ℕ → ℕ → ℕ → ℕ → Vals
vals_made v0 v1 v2 v3 = record { v0 = v0; v1 = v1; v2 = v2; v3 = v3 }

same_fields : (v0 v1 v2 v3 w0 w1 w2 w3 : ℕ) → v0 ≡ w0 → v1 ≡ w1 → v2 ≡ w2 → v3 ≡ w3 → vals_made v0 v1 v2 v3 ≡ vals_made w0 w1 w2 w3
same_fields v0 v1 v2 v3 w0 w1 w2 w3 p q r s = rw (p, q, r, s) refl

pub same_vals : (a b : Vals) → is_same_vals a b ≡ true → a ≡ b
same_vals a b same =
    let x = both (a.v0 == b.v0 && a.v1 == b.v1 && a.v2 == b.v2) (a.v3 == b.v3) same in
    let y = both (a.v0 == b.v0 && a.v1 == b.v1) (a.v2 == b.v2) x.0 in
    let z = both (a.v0 == b.v0) (a.v1 == b.v1) y.0 in
    let p = equal_numbers a.v0 b.v0 z.0 in
    let q = equal_numbers a.v1 b.v1 z.1 in
    let r = equal_numbers a.v2 b.v2 y.1 in
    let s = equal_numbers a.v3 b.v3 x.1 in
    same_fields a.v0 a.v1 a.v2 a.v3 b.v0 b.v1 b.v2 b.v3 p q r s

pub same_vals_self : (a : Vals) → is_same_vals a a ≡ true
same_vals_self a = rw (equal_self a.v0, equal_self a.v1, equal_self a.v2, equal_self a.v3) refl

get_last : {X : Type 0} (xs : List X) (x y : X) (k : ℕ) → slice_get (xs ++ x ∷ []) k ≡ Some y → (slice_get xs k ≡ Some y) ⊎ (y ≡ x)
get_last [] x y zero is = inr cc
get_last [] x y (suc k) is = cc
get_last (z ∷ xs) x y zero is = inl is
get_last (z ∷ xs) x y (suc k) is = get_last xs x y k is

nth_last_at : {X : Type 0} (xs : List X) (x y : X) (n : ℕ) (b : Bool) → (if b then None else slice_get (xs ++ x ∷ []) (pred n)) ≡ Some y → ((if b then None else slice_get xs (pred n)) ≡ Some y) ⊎ (y ≡ x)
nth_last_at xs x y n true is = cc
nth_last_at xs x y n false is = get_last xs x y (pred n) is

-- an item of a list with one more at the end is an item of the list, or the last
pub nth_last : {X : Type 0} (xs : List X) (x y : X) (n : ℕ) → nth (xs ++ x ∷ []) n ≡ Some y → (nth xs n ≡ Some y) ⊎ (y ≡ x)
nth_last xs x y n is = nth_last_at xs x y n (n == 0) is

get_pushed : {X : Type 0} (xs : List X) (x : X) → slice_get (xs ++ x ∷ []) (length xs) ≡ Some x
get_pushed [] x = refl
get_pushed (y ∷ xs) x = get_pushed xs x

nth_pushed_at : {X : Type 0} (xs : List X) (x : X) (n : ℕ) (b : Bool) → (n == 0) ≡ b → n ≡ length xs + 1 → (if b then None else slice_get (xs ++ x ∷ []) (pred n)) ≡ Some x
nth_pushed_at xs x n true zero_is is = let no : n ≡ 0 = equal_numbers n 0 zero_is in absurd (omega arith)
nth_pushed_at xs x n false some is = let at : pred n ≡ length xs = omega arith in rw at (get_pushed xs x)

-- the last item's number
pub nth_pushed : {X : Type 0} (xs : List X) (x : X) (n : ℕ) → n ≡ length xs + 1 → nth (xs ++ x ∷ []) n ≡ Some x
nth_pushed xs x n is = nth_pushed_at xs x n (n == 0) refl is

numbered_at : {X : Type 0} (xs : List X) (n : ℕ) (b : Bool) → (n == 0) ≡ b → 0 < n → (if b then None else slice_get xs (pred n)) ≡ slice_get xs (pred n)
numbered_at xs n true none low = let is : n ≡ 0 = grind (arith, nat_tests) in absurd (omega (arith, is, low))
numbered_at xs n false some low = refl

-- an item by its number, from 1
pub numbered : {X : Type 0} (xs : List X) (n : ℕ) → 0 < n → nth xs n ≡ slice_get xs (pred n)
numbered xs n low = numbered_at xs n (n == 0) refl low

-- each place of a list has an item
pub get_some : {X : Type 0} (xs : List X) (k : ℕ) → k < length xs → (x : X) × (slice_get xs k ≡ Some x)
get_some [] k low = absurd (omega arith)
get_some (x ∷ xs) zero low = (x, refl)
get_some (x ∷ xs) (suc k) low = get_some xs k (omega arith)

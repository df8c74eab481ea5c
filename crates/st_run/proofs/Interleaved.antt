-- A list whose items have owners is an interleaving of its parts: each has the items of one owner, in order.
use Rattle.std.proofs.Common.{◌≡◌, ◌≢◌, ⊎_elim, ℕ, zero, suc, ◌<◌, Bool, true, false, List, [], ◌∷◌, ◌++◌, length, get_or, refl, ap, sym, subst, ◌∙◌, arith, length-append}
use Rattle.std.specs.Prelude.{◌==◌, Some, slice_get, if◌then◌else◌}
use Rattle.std.proofs.lemmas.List.{get_or_default}
use Rattle.std.proofs.Math.Seq.{get_or-append_seam}
use Rattle.st_net.proofs.Tests.{equal_numbers, equal_self}
use Rattle.st_run.specs.Stands.{IsInterleaving}
use Rattle.st_run.proofs.DidLaws.{Each, same_or_not}

-- what stands behind a list
pub get_here : {X : Type 0} (xs : List X) (x : X) (ys : List X) → slice_get (xs ++ x ∷ ys) (length xs) ≡ Some x
get_here [] x ys = refl
get_here (z ∷ xs) x ys = get_here xs x ys

pub record Owned (X : Type 0) : Type 0 where
  pub by : ℕ
  pub item : X

abbrev pub items : {X : Type 0} → List (Owned X) → List X
items [] = []
items (x ∷ xs) = x.item ∷ items xs

-- the items of one owner
abbrev pub part : {X : Type 0} → ℕ → List (Owned X) → List X
part a [] = []
part a (x ∷ xs) = if x.by == a then x.item ∷ part a xs else part a xs

-- each item of the one list stands for that of the other
abbrev pub Pairs : {X Y : Type 0} → (X → Y → Type 0) → List X → List Y → Type 0
Pairs Is [] [] = Unit {0}
Pairs Is [] (y ∷ ys) = ⊥
Pairs Is (x ∷ xs) [] = ⊥
Pairs Is (x ∷ xs) (y ∷ ys) = Is x y × Pairs Is xs ys

pub pairs_append : {X Y : Type 0} (Is : X → Y → Type 0) (xs xt : List X) (ys yt : List Y) → Pairs Is xs ys → Pairs Is xt yt
    → Pairs Is (xs ++ xt) (ys ++ yt)
pairs_append Is [] xt [] yt p q = q
pairs_append Is [] xt (y ∷ ys) yt p q = absurd p
pairs_append Is (x ∷ xs) xt [] yt p q = absurd p
pairs_append Is (x ∷ xs) xt (y ∷ ys) yt p q = (p.0, pairs_append Is xs xt ys yt p.1 q)

pairs_none : {X Y : Type 0} (Is : X → Y → Type 0) (ys : List Y) → Pairs Is [] ys → ys ≡ []
pairs_none Is [] p = refl
pairs_none Is (y ∷ ys) p = absurd p

record Paired {X Y : Type 0} (Is : X → Y → Type 0) (x : X) (xs : List X) (ys : List Y) : Type 0 where
  first : Y
  rest : List Y
  are : ys ≡ first ∷ rest
  one : Is x first
  others : Pairs Is xs rest

paired : {X Y : Type 0} (Is : X → Y → Type 0) (x : X) (xs : List X) (ys : List Y) → Pairs Is (x ∷ xs) ys → Paired Is x xs ys
paired Is x xs [] p = absurd p
paired Is x xs (y ∷ ys) p = record { first = y; rest = ys; are = refl; one = p.0; others = p.1 }

-- a list at one of its places
record SplitAt {X : Type 0} (xs : List X) (a : ℕ) (d : X) : Type 0 where
  before : List X
  behind : List X
  are : xs ≡ before ++ get_or xs a d ∷ behind
  at : length before ≡ a

split_at : {X : Type 0} (xs : List X) (a : ℕ) (d : X) → a < length xs → SplitAt xs a d
split_at [] a d lt = absurd (omega (arith, lt))
split_at (x ∷ xs) zero d lt = record { before = []; behind = xs; are = refl; at = refl }
split_at (x ∷ xs) (suc a) d lt =
    let s = split_at xs a d (omega (arith, lt)) in
    record { before = x ∷ s.before; behind = s.behind; are = ap (λ l. x ∷ l) s.are; at = ap suc s.at }

other_place : {X : Type 0} (before : List X) (x y : X) (behind : List X) (b : ℕ) (d : X) → b ≢ length before
    → get_or (before ++ x ∷ behind) b d ≡ get_or (before ++ y ∷ behind) b d
other_place [] x y behind zero d apart = absurd (apart refl)
other_place [] x y behind (suc b) d apart = refl
other_place (z ∷ before) x y behind zero d apart = refl
other_place (z ∷ before) x y behind (suc b) d apart = other_place before x y behind b d (λ e. apart (ap suc e))

pub part_own : {X : Type 0} (x : Owned X) (xs : List (Owned X)) (a : ℕ) → x.by ≡ a → part a (x ∷ xs) ≡ x.item ∷ part a xs
part_own x xs a is = let same : (x.by == a) ≡ true = ap (λ (n : ℕ). n == a) is ∙ equal_self a in rw same refl

part_apart : {X : Type 0} (x : Owned X) (xs : List (Owned X)) (a : ℕ) (b : Bool) → (x.by == a) ≡ b → x.by ≢ a → part a (x ∷ xs) ≡ part a xs
part_apart x xs a true is apart = absurd (apart (equal_numbers x.by a is))
part_apart x xs a false is apart = rw is refl

pub part_other : {X : Type 0} (x : Owned X) (xs : List (Owned X)) (a : ℕ) → x.by ≢ a → part a (x ∷ xs) ≡ part a xs
part_other x xs a apart = part_apart x xs a (x.by == a) refl apart

pub each_below : {X : Type 0} (m n : ℕ) (xs : List (Owned X)) → m ≡ n → Each (λ x. x.by < m) xs → Each (λ x. x.by < n) xs
each_below m n xs is e = subst (λ (k : ℕ). Each (λ x. x.by < k) xs) is e

-- where each part of the list stands for the list of its owner, the whole is an interleaving of these lists
pub interleaves : {X Y : Type 0} (Is : X → Y → Type 0) (xs : List (Owned X)) (lists : List (List Y)) → Each (λ x. x.by < length lists) xs
    → ((a : ℕ) → a < length lists → Pairs Is (part a xs) (get_or lists a [])) → IsInterleaving Is (items xs) lists
interleaves Is [] lists low parts = λ k d lt. get_or_default lists k d [] lt ∙ pairs_none Is (get_or lists k []) (parts k lt)
interleaves {X} {Y} Is (x ∷ xs) lists low parts =
    let a = x.by in
    let s = split_at lists a [] low.0 in
    let p = paired Is x.item (part a xs) (get_or lists a []) (subst (λ (l : List X). Pairs Is l (get_or lists a [])) (part_own x xs a refl) (parts a low.0)) in
    let were : lists ≡ s.before ++ (p.first ∷ p.rest) ∷ s.behind = s.are ∙ ap (λ (l : List Y). s.before ++ l ∷ s.behind) p.are in
    let rest : List (List Y) = s.before ++ p.rest ∷ s.behind in
    let len : length rest ≡ length lists =
    omega (arith, ap length were, length-append s.before (p.rest ∷ s.behind), length-append s.before ((p.first ∷ p.rest) ∷ s.behind)) in
    let here : Pairs Is (part a xs) (get_or rest a []) =
    subst (λ (n : ℕ). Pairs Is (part a xs) (get_or rest n [])) s.at (subst (Pairs Is (part a xs))
    (sym (get_or-append_seam s.before p.rest s.behind [])) p.others) in
    let there : (b : ℕ) → b < length lists → a ≢ b → Pairs Is (part b xs) (get_or rest b []) = λ b lt apart.
    let same : get_or lists b [] ≡ get_or rest b [] =
    ap (λ (l : List (List Y)). get_or l b []) were ∙ other_place s.before (p.first ∷ p.rest) p.rest s.behind b [] (λ e. apart (sym (e ∙ s.at))) in
    subst (Pairs Is (part b xs)) same (subst (λ (l : List X). Pairs Is l (get_or lists b [])) (part_other x xs b apart) (parts b lt)) in
    let all : (b : ℕ) → b < length rest → Pairs Is (part b xs) (get_or rest b []) = λ b lt. ⊎_elim
    (λ (at : a ≡ b). subst (λ (c : ℕ). Pairs Is (part c xs) (get_or rest c [])) at here)
    (λ (apart : a ≢ b). there b (omega (arith, lt, len)) apart)
    (same_or_not a b) in
    record {
      first = p.first;
      rest = rest;
      stands_for = p.one;
      taken = record { before = s.before; list = p.rest; behind = s.behind; were = were; are = refl };
      remains = interleaves Is xs rest (each_below (length lists) (length rest) xs (sym len) low.1) all;
    }

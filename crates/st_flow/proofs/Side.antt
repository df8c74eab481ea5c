-- The nodes that a search has reached, as a list.
use Rattle.std.proofs.Common.{◌≡◌, ℕ, ◌+◌, ◌<◌, ◌≤◌, ◌==◌, suc, zero, Bool, true, false, ◌||◌, List, [], ◌∷◌, ◌++◌, length, get_or, length-append, refl, arith, All, sym, ◌∙◌, ap, inl, inr}
use Rattle.std.proofs.Math.Seq.{get_or-append_seam}
use Rattle.std.proofs.lemmas.List.{get_or_append_left}
use Rattle.std.proofs.lemmas.List.Elements.{All-push}
use Rattle.std.proofs.lemmas.List.Folds.{list_any-append, list_any_none}
use Rattle.std.proofs.lemmas.Bool.Decides.{nat_tests, eqb_tells, leb_tells}
use Rattle.std.specs.List.Sorted.{IsStrictlyIncreasing}
use Rattle.st_flow.specs.Network.{has}

-- the nodes below x that pass, ascending
pub record IsSideBelow (test : ℕ → Bool) (x : ℕ) (side : List ℕ) : Type 0 where
  pub has_is : (y : ℕ) → y < x → has side y ≡ test y
  pub below : All (λ y. y < x) side
  pub ascending : IsStrictlyIncreasing side

pub has-at : (side : List ℕ) (k d : ℕ) → k < length side → has side (get_or side k d) ≡ true
has-at [] k d lt = absurd (omega arith)
has-at (y ∷ side) zero d lt = grind (arith, nat_tests)
has-at (y ∷ side) (suc k) d lt = let r = has-at side k d (omega arith) in grind (arith, nat_tests)

has-above : (side : List ℕ) (x y : ℕ) → All (λ z. z < x) side → x ≤ y → has side y ≡ false
has-above side x y below le = list_any_none (λ z. z == y) side (λ k d lt. let b = below k d lt in grind (arith, nat_tests))

pub IsSideBelow-start : (test : ℕ → Bool) → IsSideBelow test 0 []
IsSideBelow-start test = record { has_is = λ y lt. absurd (omega arith); below = λ k d lt. absurd (omega arith); ascending = λ k lt. absurd (omega arith) }

pub IsSideBelow-skip : (test : ℕ → Bool) (x : ℕ) (side : List ℕ) → IsSideBelow test x side → test x ≡ false → IsSideBelow test (x + 1) side
IsSideBelow-skip test x side is fails = record {
  has_is = λ y lt. elim (eqb_tells y x) [
    | inl e ↦ rw e.1 (has-above side x x is.below (omega arith) ∙ sym fails)
    | inr ne ↦ is.has_is y (omega (arith, ne.1, lt))
  ];
  below = λ k d lt. omega (arith, is.below k d lt);
  ascending = is.ascending;
}

has-push : (side : List ℕ) (x y : ℕ) → has (side ++ x ∷ []) y ≡ (has side y || (x == y))
has-push side x y = let e = list_any-append (λ z. z == y) side (x ∷ []) in e ∙ ap (λ b. has side y || b) (or_false (x == y))
  where
    or_false : (b : Bool) → (b || false) ≡ b
    or_false true = refl
    or_false false = refl

pub IsSideBelow-push : (test : ℕ → Bool) (x : ℕ) (side : List ℕ) → IsSideBelow test x side → test x ≡ true → IsSideBelow test (x + 1) (side ++ x ∷ [])
IsSideBelow-push test x side is passes = record {
  has_is = λ y lt. elim (eqb_tells x y) [
    | inl e ↦ has-push side x y ∙ rw (e.0) (true_right (has side y) ∙ (sym passes ∙ ap test e.1))
    | inr ne ↦ has-push side x y ∙ rw (ne.0) (false_right (has side y) ∙ is.has_is y (omega (arith, ne.1, lt)))
  ];
  below = All-push (λ y. y < x + 1) side x (λ k d lt. omega (arith, is.below k d lt)) (omega arith);
  ascending = λ k lt.
      let len = length-append side (x ∷ []) in
      let k_in : k < length side = omega (arith, len, lt) in
      elim (leb_tells (length side) (k + 1)) [
        | inl end ↦
            let at : k + 1 ≡ length side = omega (arith, end.1, len, lt) in
            rw (get_or_append_left side (x ∷ []) 0 k k_in, at, get_or-append_seam side x [] 0) (is.below k 0 k_in)
        | inr inside ↦ rw (get_or_append_left side (x ∷ []) 0 k k_in, get_or_append_left side (x ∷ []) 0 (k + 1) inside.1) (is.ascending k inside.1)
      ];
}
  where
    true_right : (b : Bool) → (b || true) ≡ true
    true_right true = refl
    true_right false = refl

    false_right : (b : Bool) → (b || false) ≡ b
    false_right true = refl
    false_right false = refl

-- past the end there is none
pub IsSideBelow-all : (test : ℕ → Bool) (x : ℕ) (side : List ℕ) → IsSideBelow test x side → ((y : ℕ) → x ≤ y → test y ≡ false) → (y : ℕ) → has side y ≡ test y
IsSideBelow-all test x side is none y = elim (leb_tells x y) [
  | inl past ↦ has-above side x y is.below past.1 ∙ sym (none y past.1)
  | inr here ↦ is.has_is y here.1
]

-- A count does not depend on the order.
use Rattle.std.proofs.Common.{◌≡◌, ◌∙◌, ◌+◌, List, [], ◌∷◌, Bool, cond, map, refl, sym, ap, zero-add, arith}
use Rattle.std.specs.Prelude.{reverse, count_by}
use Rattle.std.proofs.lemmas.List.{reverse-append}
use Rattle.std.proofs.lemmas.List.Sums.{sum_by-append}

pub count_cons : {X : Type 0} (test : X → Bool) (x : X) (xs : List X) → count_by test (x ∷ xs) ≡ cond (test x) 1 0 + count_by test xs
count_cons test x xs = sum_by-append (λ x. cond (test x) 1 0) (x ∷ []) xs ∙ ap (λ n. n + count_by test xs) (zero-add (cond (test x) 1 0))

pub count_reverse : {X : Type 0} (test : X → Bool) (xs : List X) → count_by test (reverse xs) ≡ count_by test xs
count_reverse test [] = refl
count_reverse test (x ∷ xs) =
    let last : count_by test (reverse (x ∷ xs)) ≡ count_by test (reverse xs) + count_by test (x ∷ []) = ap (count_by test) (reverse-append (x ∷ []) xs) ∙ sum_by-append (λ x. cond (test x) 1 0) (reverse xs) (x ∷ []) in
    let one : count_by test (x ∷ []) ≡ cond (test x) 1 0 = zero-add (cond (test x) 1 0) in
    let rest = count_reverse test xs in
    let both = count_cons test x xs in
    omega (arith, last, one, rest, both)

-- marks that were made by a test are counted as what passes it
pub count_marks : {X : Type 0} (test : X → Bool) (xs : List X) → count_by (λ mark. mark) (map test xs) ≡ count_by test xs
count_marks test [] = refl
count_marks test (x ∷ xs) = count_cons (λ mark. mark) (test x) (map test xs) ∙ (ap (λ n. cond (test x) 1 0 + n) (count_marks test xs) ∙ sym (count_cons test x xs))

-- Lists of the numbers of a set.
use Rattle.std.proofs.Common.{◌≡◌, ◌≢◌, ℕ, zero, suc, ◌+◌, ◌<◌, ◌≤◌, List, [], ◌∷◌, ◌++◌, length, get_or, refl, ap, ◌∙◌, sym, subst, arith, length-append}
use Rattle.std.specs.Prelude.{Bool, true, false, ◌&&◌, ◌||◌, ◌==◌, nat_lt, All, if◌then◌else◌}
use Rattle.std.specs.List.{list_any}
use Rattle.std.specs.List.Sorted.{IsStrictlyIncreasing}
use Rattle.std.proofs.lemmas.Bool.Decides.{nat_tests}
use Rattle.std.proofs.lemmas.List.{get_or_append_left, append-nil}
use Rattle.std.proofs.lemmas.List.Folds.{list_any-append, list_any_none}
use Rattle.std.proofs.Math.Seq.{get_or-append_seam}
use Rattle.st_net.specs.Cuts.{numbers_in}
use Rattle.st_promise.specs.Reach.{is_member}

abbrev AreBelow : ℕ → List ℕ → Type 0
AreBelow n xs = (k : ℕ) → k < length xs → get_or xs k 0 < n

last_or_before : (n : ℕ) (xs : List ℕ) → AreBelow n xs → (k : ℕ) (p : Bool) → (k == length xs) ≡ p → k < length (xs ++ n ∷ []) → get_or (xs ++ n ∷ []) k 0 < suc n
last_or_before n xs low k true is small =
    let same : k ≡ length xs = grind (arith, nat_tests) in
    rw (same, get_or-append_seam xs n [] 0) (omega arith)
last_or_before n xs low k false is small =
    let other : k ≢ length xs = grind (arith, nat_tests) in
    let before : k < length xs = omega (arith, other, length-append xs (n ∷ [])) in
    let here = low k before in
    rw (get_or_append_left xs (n ∷ []) 0 k before) (omega (arith, here))

append_below : (n : ℕ) (xs : List ℕ) (p : Bool) → AreBelow n xs → AreBelow (suc n) (xs ++ (if p then n ∷ [] else []))
append_below n xs true low k small = last_or_before n xs low k (k == length xs) refl small
append_below n xs false low k small =
    let same : xs ++ [] ≡ xs = append-nil xs in
    let here = low k (rw same at small) in
    rw same (omega (arith, here))

below : (n : ℕ) (test : ℕ → Bool) → AreBelow n (numbers_in n test)
below zero test = λ k small. absurd (omega arith)
below (suc n) test = append_below n (numbers_in n test) (test n) (below n test)

rising_at : (n : ℕ) (xs : List ℕ) → AreBelow n xs → IsStrictlyIncreasing xs → (k : ℕ) (p : Bool) → (k + 1 == length xs) ≡ p → k + 1 < length (xs ++ n ∷ []) → get_or (xs ++ n ∷ []) k 0 < get_or (xs ++ n ∷ []) (k + 1) 0
rising_at n xs low up k true is small =
    let same : k + 1 ≡ length xs = grind (arith, nat_tests) in
    let before : k < length xs = omega (arith, same) in
    rw (same, get_or-append_seam xs n [] 0, get_or_append_left xs (n ∷ []) 0 k before) (low k before)
rising_at n xs low up k false is small =
    let other : k + 1 ≢ length xs = grind (arith, nat_tests) in
    let next : k + 1 < length xs = omega (arith, other, length-append xs (n ∷ [])) in
    let before : k < length xs = omega (arith, next) in
    rw (get_or_append_left xs (n ∷ []) 0 (k + 1) next, get_or_append_left xs (n ∷ []) 0 k before) (up k next)

append_rising : (n : ℕ) (xs : List ℕ) (p : Bool) → AreBelow n xs → IsStrictlyIncreasing xs → IsStrictlyIncreasing (xs ++ (if p then n ∷ [] else []))
append_rising n xs true low up = λ k small. rising_at n xs low up k (k + 1 == length xs) refl small
append_rising n xs false low up = subst (λ (ys : List ℕ). IsStrictlyIncreasing ys) (sym (append-nil xs)) up

-- the numbers of a set ascend
pub rising : (n : ℕ) (test : ℕ → Bool) → IsStrictlyIncreasing (numbers_in n test)
rising zero test = λ k small. absurd (omega arith)
rising (suc n) test = append_rising n (numbers_in n test) (test n) (below n test) (rising n test)

or_false : (p : Bool) → (p || false) ≡ p
or_false true = refl
or_false false = refl

any_last : (q : Bool) (n d : ℕ) → list_any (λ x. x == d) (if q then n ∷ [] else []) ≡ (q && n == d)
any_last false n d = refl
any_last true n d = or_false (n == d)

member_more : (n : ℕ) (f : ℕ → Bool) (d : ℕ) → is_member (numbers_in (suc n) f) d ≡ (is_member (numbers_in n f) d || (f n && n == d))
member_more n f d = rw (list_any-append (λ x. x == d) (numbers_in n f) (if f n then n ∷ [] else []), any_last (f n) n d) refl

or_right : (p q : Bool) → q ≡ true → (p || q) ≡ true
or_right true q is = refl
or_right false q is = is

or_left : (p q : Bool) → p ≡ true → (p || q) ≡ true
or_left true q is = refl
or_left false q is = cc

and_both : (p q : Bool) → p ≡ true → q ≡ true → (p && q) ≡ true
and_both p q is also = rw (is, also) refl

member_has_at : (n : ℕ) (f : ℕ → Bool) (d : ℕ) (p : Bool) → (n == d) ≡ p → d < suc n → f d ≡ true → (d < n → is_member (numbers_in n f) d ≡ true) → (is_member (numbers_in n f) d || (f n && n == d)) ≡ true
member_has_at n f d true same low has before =
    let at : d ≡ n = grind (arith, nat_tests) in
    or_right _ _ (and_both (f n) (n == d) (ap f (sym at) ∙ has) same)
member_has_at n f d false same low has before =
    let small : d < n = grind (arith, nat_tests) in
    or_left _ _ (before small)

-- the numbers of a set are those in it
pub member_has : (n : ℕ) (f : ℕ → Bool) (d : ℕ) → d < n → f d ≡ true → is_member (numbers_in n f) d ≡ true
member_has zero f d low has = absurd (omega arith)
member_has (suc n) f d low has = member_more n f d ∙ member_has_at n f d (n == d) refl low has (λ small. member_has n f d small has)

and_first : (p q : Bool) → (p && q) ≡ true → p ≡ true
and_first true q is = refl
and_first false q is = is

and_second : (p q : Bool) → (p && q) ≡ true → q ≡ true
and_second true q is = is
and_second false q is = cc

member_is_at : (n : ℕ) (f : ℕ → Bool) (d : ℕ) (p q : Bool) → (n == d) ≡ q → (p ≡ true → f d ≡ true) → (p || (f n && q)) ≡ true → f d ≡ true
member_is_at n f d true q same before is = before refl
member_is_at n f d false true same before is =
    let at : d ≡ n = grind (arith, nat_tests) in
    ap f at ∙ and_first (f n) true is
member_is_at n f d false false same before is = let clash = and_second (f n) false is in cc

pub member_is : (n : ℕ) (f : ℕ → Bool) (d : ℕ) → is_member (numbers_in n f) d ≡ true → f d ≡ true
member_is zero f d is = cc
member_is (suc n) f d is = member_is_at n f d (is_member (numbers_in n f) d) (n == d) refl (member_is n f d) (sym (member_more n f d) ∙ is)

member_not_at : (n : ℕ) (f : ℕ → Bool) (d : ℕ) (p : Bool) → is_member (numbers_in n f) d ≡ p → f d ≡ false → p ≡ false
member_not_at n f d true is out = let has = member_is n f d is in let clash : true ≡ false = sym has ∙ out in cc
member_not_at n f d false is out = refl

pub member_not : (n : ℕ) (f : ℕ → Bool) (d : ℕ) → f d ≡ false → is_member (numbers_in n f) d ≡ false
member_not n f d out = member_not_at n f d (is_member (numbers_in n f) d) refl out

and_false : (p : Bool) → (p && false) ≡ false
and_false true = refl
and_false false = refl

-- past all numbers of a set there is none
member_past : (n : ℕ) (f : ℕ → Bool) (d : ℕ) → n ≤ d → is_member (numbers_in n f) d ≡ false
member_past zero f d past = refl
member_past (suc n) f d past =
    let before = member_past n f d (omega arith) in
    let other : (n == d) ≡ false = grind (arith, nat_tests) in
    member_more n f d ∙ rw (before, other) (and_false (f n))

member_of_at : (n : ℕ) (f : ℕ → Bool) (d : ℕ) (p : Bool) → f d ≡ p → d < n → is_member (numbers_in n f) d ≡ f d
member_of_at n f d true is low = member_has n f d low is ∙ sym is
member_of_at n f d false is low = member_not n f d is ∙ sym is

rising_tail : (x : ℕ) (xs : List ℕ) → IsStrictlyIncreasing (x ∷ xs) → IsStrictlyIncreasing xs
rising_tail x xs up k low =
    let next : suc k + 1 ≡ suc (k + 1) = omega arith in
    let more = up (suc k) (omega (arith, low)) in
    rw next at more

-- none of the later is as low as the first
later_above : (x : ℕ) (xs : List ℕ) (d : ℕ) → IsStrictlyIncreasing (x ∷ xs) → d ≤ x → is_member xs d ≡ false
later_above x [] d up low = refl
later_above x (y ∷ ys) d up low =
    let above : x < y = up zero (omega arith) in
    let other : (y == d) ≡ false = grind (arith, nat_tests) in
    rw other (later_above y ys d (rising_tail x (y ∷ ys) up) (omega (arith, above, low)))

below_first : (x : ℕ) (xs : List ℕ) (d : ℕ) → IsStrictlyIncreasing (x ∷ xs) → d < x → is_member (x ∷ xs) d ≡ false
below_first x xs d up low =
    let other : (x == d) ≡ false = grind (arith, nat_tests) in
    rw other (later_above x xs d up (omega (arith, low)))

has_first : (x : ℕ) (xs : List ℕ) → is_member (x ∷ xs) x ≡ true
has_first x xs = let same : (x == x) ≡ true = grind (arith, nat_tests) in rw same refl

same_first : (x y : ℕ) (xs ys : List ℕ) → IsStrictlyIncreasing (x ∷ xs) → IsStrictlyIncreasing (y ∷ ys) → ((d : ℕ) → is_member (x ∷ xs) d ≡ is_member (y ∷ ys) d) → (p q : Bool) → nat_lt x y ≡ p → nat_lt y x ≡ q → x ≡ y
same_first x y xs ys up also same true q less more =
    let clash : true ≡ false = sym (has_first x xs) ∙ (same x ∙ below_first y ys x also (grind (arith, nat_tests))) in
    cc
same_first x y xs ys up also same false true less more =
    let clash : true ≡ false = sym (has_first y ys) ∙ (sym (same y) ∙ below_first x xs y up (grind (arith, nat_tests))) in
    cc
same_first x y xs ys up also same false false less more = grind (arith, nat_tests)

same_later : (x : ℕ) (xs ys : List ℕ) → IsStrictlyIncreasing (x ∷ xs) → IsStrictlyIncreasing (x ∷ ys) → (d : ℕ) (p : Bool) → (x == d) ≡ p → is_member (x ∷ xs) d ≡ is_member (x ∷ ys) d → is_member xs d ≡ is_member ys d
same_later x xs ys up also d true is same =
    let low : d ≤ x = grind (arith, nat_tests) in
    later_above x xs d up low ∙ sym (later_above x ys d also low)
same_later x xs ys up also d false is same = rw is at same

-- lists of ascending numbers with the same members are the same
pub rising_same : (xs ys : List ℕ) → IsStrictlyIncreasing xs → IsStrictlyIncreasing ys → ((d : ℕ) → is_member xs d ≡ is_member ys d) → xs ≡ ys
rising_same [] [] up also same = refl
rising_same [] (y ∷ ys) up also same = let clash : false ≡ true = same y ∙ has_first y ys in cc
rising_same (x ∷ xs) [] up also same = let clash : false ≡ true = sym (same x) ∙ has_first x xs in cc
rising_same (x ∷ xs) (y ∷ ys) up also same =
    let first : x ≡ y = same_first x y xs ys up also same (nat_lt x y) (nat_lt y x) refl refl in
    let also_x : IsStrictlyIncreasing (x ∷ ys) = rw first also in
    let same_x = subst (λ (z : ℕ). (d : ℕ) → is_member (x ∷ xs) d ≡ is_member (z ∷ ys) d) (sym first) same in
    let later = rising_same xs ys (rising_tail x xs up) (rising_tail x ys also_x) (λ d. same_later x xs ys up also_x d (x == d) refl (same_x d)) in
    rw (first, later) refl

member_low_at : (n d : ℕ) (xs : List ℕ) → All (λ x. x < n) xs → n ≤ d → is_member xs d ≡ false
member_low_at n d xs low past = list_any_none (λ x. x == d) xs (λ k e small. let below = low k e small in grind (arith, nat_tests))

same_members : (n : ℕ) (xs : List ℕ) (f : ℕ → Bool) → All (λ x. x < n) xs → ((d : ℕ) → d < n → f d ≡ is_member xs d) → (d : ℕ) (p : Bool) → nat_lt d n ≡ p → is_member xs d ≡ is_member (numbers_in n f) d
same_members n xs f low same d true is =
    let small : d < n = grind (arith, nat_tests) in
    sym (member_of_at n f d (f d) refl small ∙ same d small)
same_members n xs f low same d false is =
    let past : n ≤ d = grind (arith, nat_tests) in
    member_low_at n d xs low past ∙ sym (member_past n f d past)

-- ascending numbers below n are the numbers of a set that has just these
pub numbers_of : (n : ℕ) (xs : List ℕ) (f : ℕ → Bool) → IsStrictlyIncreasing xs → All (λ x. x < n) xs → ((d : ℕ) → d < n → f d ≡ is_member xs d) → xs ≡ numbers_in n f
numbers_of n xs f up low same = rising_same xs (numbers_in n f) up (rising n f) (λ d. same_members n xs f low same d (nat_lt d n) refl)

-- Lists of changes: one more at the end, or in the place of the last; and the last up to a version.
use Rattle.std.proofs.Common.{◌≡◌, ℕ, zero, suc, ◌-◌, ◌<◌, ◌≤◌, List, [], ◌∷◌, ◌++◌, length, get_or, set, Some, refl, sym, ap, arith, length-append, length-set, inl, inr}
use Rattle.std.specs.Prelude.{◌⊎◌, Bool, true, false, ◌==◌, nat_le, slice_get, All, if◌then◌else◌}
use Rattle.std.proofs.lemmas.Bool.Decides.{nat_tests}
use Rattle.std.proofs.lemmas.List.Elements.{All-push}
use Rattle.st_net.specs.declared.entity.Vals.{Vals}
use Rattle.st_store.specs.declared.change.Change.{Change}
use Rattle.st_store.specs.Changes.{vals_upto, is_last_at, with_change, IsAscending, IsUpTo, IsOrderly}
use Rattle.st_net.proofs.Tests.{at_most}

-- one change more at the end counts where it is of that version or an earlier one
pub vals_upto-append : (v : ℕ) (cs : List Change) (c : Change) (before : Vals) → vals_upto v (cs ++ c ∷ []) before ≡ (if nat_le c.version v then c.vals else vals_upto v cs before)
vals_upto-append v [] c before = refl
vals_upto-append v (x ∷ cs) c before = vals_upto-append v cs c (if nat_le x.version v then x.vals else before)

first_upto : (n : ℕ) (c : Change) (cs : List Change) → All (IsUpTo n) (c ∷ cs) → c.version ≤ n
first_upto n c cs all = all 0 c (omega arith)

rest_upto : (n : ℕ) (c : Change) (cs : List Change) → All (IsUpTo n) (c ∷ cs) → All (IsUpTo n) cs
rest_upto n c cs all = λ k d lt. all (suc k) d (omega arith)

-- beyond the last change nothing changes
pub vals_upto-beyond : (n v : ℕ) (cs : List Change) (before : Vals) → n ≤ v → All (IsUpTo n) cs → vals_upto v cs before ≡ vals_upto n cs before
vals_upto-beyond n v [] before le all = refl
vals_upto-beyond n v (c ∷ cs) before le all =
    let here : c.version ≤ n = first_upto n c cs all in
    let there : c.version ≤ v = omega arith in
    rw (at_most c.version n here, at_most c.version v there) (vals_upto-beyond n v cs c.vals le (rest_upto n c cs all))

-- no change is of that version or an earlier one
none_upto : (v : ℕ) (cs : List Change) (before : Vals) → ((k : ℕ) (d : Change) → k < length cs → nat_le (get_or cs k d).version v ≡ false) → vals_upto v cs before ≡ before
none_upto v [] before all = refl
none_upto v (c ∷ cs) before all = rw (all 0 c (omega arith)) (none_upto v cs before (λ k d lt. all (suc k) d (omega arith)))

-- the changes up to a version are the first k: none where k is 0, and else number k is the last of them
pub vals_upto-none : (v : ℕ) (cs : List Change) (before : Vals) (k : ℕ) → k ≡ 0 → ((j : ℕ) (d : Change) → k ≤ j → j < length cs → nat_le (get_or cs j d).version v ≡ false) → vals_upto v cs before ≡ before
vals_upto-none v cs before k zeroed above = none_upto v cs before (λ j d lt. above j d (omega arith) lt)

last_upto : (v : ℕ) (cs : List Change) (before : Vals) (k : ℕ) (d : Change) → suc k ≤ length cs → ((j : ℕ) (d : Change) → j < suc k → nat_le (get_or cs j d).version v ≡ true) → ((j : ℕ) (d : Change) → suc k ≤ j → j < length cs → nat_le (get_or cs j d).version v ≡ false) → vals_upto v cs before ≡ (get_or cs k d).vals
last_upto v [] before k d within below above = absurd (omega arith)
last_upto v (c ∷ cs) before zero d within below above = rw (below 0 c (omega arith)) (none_upto v cs c.vals (λ j d lt. above (suc j) d (omega arith) (omega arith)))
last_upto v (c ∷ cs) before (suc k) d within below above = last_upto v cs (if nat_le c.version v then c.vals else before) k d (omega arith) (λ j d lt. below (suc j) d (omega arith)) (λ j d ge lt. above (suc j) d (omega arith) (omega arith))

pub vals_upto-last : (v : ℕ) (cs : List Change) (before : Vals) (k : ℕ) (d : Change) → 0 < k → k ≤ length cs → ((j : ℕ) (d : Change) → j < k → nat_le (get_or cs j d).version v ≡ true) → ((j : ℕ) (d : Change) → k ≤ j → j < length cs → nat_le (get_or cs j d).version v ≡ false) → vals_upto v cs before ≡ (get_or cs (k - 1) d).vals
vals_upto-last v cs before zero d some within below above = absurd (omega arith)
vals_upto-last v cs before (suc k) d some within below above =
    let behind : suc k - 1 ≡ k = omega arith in
    rw behind (last_upto v cs before k d within below above)

get_push : (cs : List Change) (c : Change) → slice_get (cs ++ c ∷ []) (length cs) ≡ Some c
get_push [] c = refl
get_push (x ∷ cs) c = get_push cs c

get_set : (cs : List Change) (i : ℕ) (c : Change) → i < length cs → slice_get (set cs i c) i ≡ Some c
get_set [] i c lt = absurd (omega arith)
get_set (x ∷ cs) zero c lt = refl
get_set (x ∷ cs) (suc i) c lt = get_set cs i c (omega arith)

same_version : (n : ℕ) → (n == n) ≡ true
same_version n = grind (arith, nat_tests)

-- a list with a change of some version last is not empty
last_some : (cs : List Change) (v : ℕ) → is_last_at cs v ≡ true → 0 < length cs
last_some [] v is = cc
last_some (c ∷ cs) v is = omega arith

pushed_last : (cs : List Change) (c : Change) → is_last_at (cs ++ c ∷ []) c.version ≡ true
pushed_last cs c =
    let at : length (cs ++ c ∷ []) - 1 ≡ length cs = omega (arith, length-append cs (c ∷ [])) in
    rw (at, get_push cs c) (same_version c.version)

set_last : (cs : List Change) (c : Change) → 0 < length cs → is_last_at (set cs (length cs - 1) c) c.version ≡ true
set_last cs c some =
    rw (length-set cs (length cs - 1) c, get_set cs (length cs - 1) c (omega arith)) (same_version c.version)

by_last : (cs : List Change) (c : Change) (b : Bool) → is_last_at cs c.version ≡ b → is_last_at (if b then set cs (length cs - 1) c else cs ++ c ∷ []) c.version ≡ true
by_last cs c true is = set_last cs c (last_some cs c.version is)
by_last cs c false is = pushed_last cs c

-- the change that was entered is the last
pub is_last_at-with_change : (cs : List Change) (c : Change) → is_last_at (with_change cs c) c.version ≡ true
is_last_at-with_change cs c = by_last cs c (is_last_at cs c.version) refl

of_same : (v : ℕ) (x c : Change) (before : Vals) (b : Bool) → x.version ≡ c.version → nat_le c.version v ≡ b → (if b then c.vals else before) ≡ (if b then c.vals else (if nat_le x.version v then x.vals else before))
of_same v x c before true same is = refl
of_same v x c before false same is = rw (same, is) refl

-- one change more in the place of the last
vals_upto-set : (v : ℕ) (cs : List Change) (c : Change) (before : Vals) → is_last_at cs c.version ≡ true → vals_upto v (set cs (length cs - 1) c) before ≡ (if nat_le c.version v then c.vals else vals_upto v cs before)
vals_upto-set v [] c before is = cc
vals_upto-set v (x ∷ []) c before is =
    let same : x.version ≡ c.version = grind (arith, nat_tests, is) in
    of_same v x c before (nat_le c.version v) same refl
vals_upto-set v (x ∷ y ∷ cs) c before is =
    let behind : length (x ∷ y ∷ cs) - 1 ≡ suc (length (y ∷ cs) - 1) = omega arith in
    rw behind (vals_upto-set v (y ∷ cs) c (if nat_le x.version v then x.vals else before) (rw behind at is))

upto_by_last : (v : ℕ) (cs : List Change) (c : Change) (before : Vals) (b : Bool) → is_last_at cs c.version ≡ b → vals_upto v (if b then set cs (length cs - 1) c else cs ++ c ∷ []) before ≡ (if nat_le c.version v then c.vals else vals_upto v cs before)
upto_by_last v cs c before true is = vals_upto-set v cs c before is
upto_by_last v cs c before false is = vals_upto-append v cs c before

-- a change that was entered counts from its version on, and before it all is as it was
pub vals_upto-with_change : (v : ℕ) (cs : List Change) (c : Change) (before : Vals) → vals_upto v (with_change cs c) before ≡ (if nat_le c.version v then c.vals else vals_upto v cs before)
vals_upto-with_change v cs c before = upto_by_last v cs c before (is_last_at cs c.version) refl

-- in order, and none above a later version either
pub IsOrderly-later : (m n : ℕ) (cs : List Change) → m ≤ n → IsOrderly m cs → IsOrderly n cs
IsOrderly-later m n cs le orderly = record {
  ascending = orderly.ascending;
  within = λ k d lt. at_most (get_or cs k d).version m n (orderly.within k d lt) le;
}
  where
    at_most : (a b c : ℕ) → a ≤ b → b ≤ c → a ≤ c
    at_most a b c p q = omega arith

-- an item of a list with one more is one of the list's, or that one
at_push : (cs : List Change) (c d : Change) (k : ℕ) → k < length (cs ++ c ∷ []) → ((k < length cs) × (get_or (cs ++ c ∷ []) k d ≡ get_or cs k d)) ⊎ ((k ≡ length cs) × (get_or (cs ++ c ∷ []) k d ≡ c))
at_push [] c d zero lt = inr (refl, refl)
at_push [] c d (suc k) lt = absurd (omega arith)
at_push (x ∷ cs) c d zero lt = inl (omega arith, refl)
at_push (x ∷ cs) c d (suc k) lt = elim (at_push cs c d k (omega arith)) [
  | inl here ↦ inl (let at = here.0 in omega arith, here.1)
  | inr here ↦ inr (ap suc here.0, here.1)
]

-- no change comes before one of an earlier version, with one more of a version that is no earlier
IsAscending-push : (cs : List Change) (c : Change) → IsAscending cs → All (IsUpTo c.version) cs → IsAscending (cs ++ c ∷ [])
IsAscending-push cs c ascending all i j d le lt = elim (at_push cs c d j lt) [
  | inl last ↦ elim (at_push cs c d i (let at = last.0 in omega arith)) [
    | inl first ↦ rw (first.1, last.1) (ascending i j d le last.0)
    | inr first ↦ let a = first.0 in let b = last.0 in absurd (omega arith)
  ]
  | inr last ↦ elim (at_push cs c d i (omega arith)) [
    | inl first ↦ rw (first.1, last.1) (all i d first.0)
    | inr first ↦ rw (first.1, last.1) (at_most_itself c.version)
  ]
]
  where
    at_most_itself : (n : ℕ) → n ≤ n
    at_most_itself n = omega arith

IsOrderly-push : (cs : List Change) (c : Change) → IsOrderly c.version cs → IsOrderly c.version (cs ++ c ∷ [])
IsOrderly-push cs c orderly = record {
  ascending = IsAscending-push cs c orderly.ascending orderly.within;
  within = All-push (IsUpTo c.version) cs c orderly.within (at_most_itself c.version);
}
  where
    at_most_itself : (n : ℕ) → n ≤ n
    at_most_itself n = omega arith

-- a change in the place of one of the same version
version-set : (cs : List Change) (i j : ℕ) (c d : Change) → i < length cs → (get_or cs i c).version ≡ c.version → (get_or (set cs i c) j d).version ≡ (get_or cs j d).version
version-set [] i j c d lt same = refl
version-set (x ∷ cs) zero zero c d lt same = sym same
version-set (x ∷ cs) zero (suc j) c d lt same = refl
version-set (x ∷ cs) (suc i) zero c d lt same = refl
version-set (x ∷ cs) (suc i) (suc j) c d lt same = version-set cs i j c d (omega arith) same

IsOrderly-set : (cs : List Change) (i : ℕ) (c : Change) → i < length cs → (get_or cs i c).version ≡ c.version → IsOrderly c.version cs → IsOrderly c.version (set cs i c)
IsOrderly-set cs i c lt same orderly = record {
  ascending = λ a b d le within. rw (version-set cs i a c d lt same, version-set cs i b c d lt same) (orderly.ascending a b d le (rw length-set at within));
  within = λ k d within. rw (version-set cs i k c d lt same) (orderly.within k d (rw length-set at within));
}

last_version : (cs : List Change) (c : Change) → is_last_at cs c.version ≡ true → (get_or cs (length cs - 1) c).version ≡ c.version
last_version [] c is = cc
last_version (x ∷ []) c is = grind (arith, nat_tests, is)
last_version (x ∷ y ∷ cs) c is =
    let behind : length (x ∷ y ∷ cs) - 1 ≡ suc (length (y ∷ cs) - 1) = omega arith in
    rw behind (last_version (y ∷ cs) c (rw behind at is))

orderly_by_last : (cs : List Change) (c : Change) (b : Bool) → is_last_at cs c.version ≡ b → IsOrderly c.version cs → IsOrderly c.version (if b then set cs (length cs - 1) c else cs ++ c ∷ [])
orderly_by_last cs c true is orderly =
    let some : 0 < length cs = last_some cs c.version is in
    IsOrderly-set cs (length cs - 1) c (omega arith) (last_version cs c is) orderly
orderly_by_last cs c false is orderly = IsOrderly-push cs c orderly

-- a change that was entered is in order, where no change is of a later version
pub IsOrderly-with_change : (cs : List Change) (c : Change) → IsOrderly c.version cs → IsOrderly c.version (with_change cs c)
IsOrderly-with_change cs c orderly = orderly_by_last cs c (is_last_at cs c.version) refl orderly

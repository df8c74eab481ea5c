-- Two lists that grow side by side: what holds of their items at each place, and of some place for the number that was met first.
use Rattle.std.proofs.Common.{◌≡◌, ◌⊎◌, ⊎_elim, ℕ, ◌+◌, ◌<◌, ◌≤◌, Bool, true, false, List, [], ◌∷◌, ◌++◌, length, get_or, refl, sym, subst, ap, ◌∙◌, arith, length-append}
use Rattle.std.specs.Prelude.{All, Option, Some, IfSome, nat_lt, if◌then◌else◌}
use Rattle.std.proofs.lemmas.List.{get_or_append_left, get_or_at}
use Rattle.std.proofs.lemmas.Option.{IfSome_then}
use Rattle.std.proofs.Math.Seq.{get_or-append_seam}
use Rattle.st_net.proofs.Tests.{less, less_is}
use Rattle.st_event.specs.declared.act.Act.{Act}
use Rattle.st_service.proofs.ClosingLaws.{both_more}
use Rattle.st_run.specs.Chores.{awaits_for}
use Rattle.st_run.specs.declared.application.Came.{Came}
use Rattle.st_run.specs.Finished.{EachPair, IsNoHigher, NamesLowest, SomePair, met_full}

pub pushed_length : {Y : Type 0} (ys new : List Y) (y : Y) → new ≡ ys ++ y ∷ [] → length new ≡ length ys + 1
pushed_length ys new y items = omega (arith, ap length items, length-append ys (y ∷ []))

-- what holds of two items at each place below, and of the next two, of which the second was pushed
pub both_pushed : {X Y : Type 0} (P : ℕ → X → Y → Type 0) (xs : List X) (ys new : List Y) (x : X) (y : Y) → new ≡ ys ++ y ∷ [] → length ys ≡ length xs
    → EachPair P xs ys → P (length xs) x y → EachPair P (xs ++ x ∷ []) new
both_pushed P xs ys new x y items same all here k d e lt = subst (λ l. P k (get_or (xs ++ x ∷ []) k d) (get_or l k e)) (sym items) (both_more P xs ys x y same all here k d e lt)

-- the two items at some place fit m
some_kept : {X Y : Type 0} (P : ℕ → X → Y → Type 0) (xs : List X) (ys new : List Y) (x : X) (y : Y) (m : ℕ) → new ≡ ys ++ y ∷ [] → length ys ≡ length xs → SomePair (P m) xs ys → SomePair (P m) (xs ++ x ∷ []) new
some_kept P xs ys new x y m items same s =
    let n = s.0 in
    let low : n < length xs = s.1 in
    let also : n < length ys = omega (arith, low, same) in
    let ends = length-append xs (x ∷ []) in (
      n,
      omega (arith, low, ends),
      λ d e. subst (λ l. P m (get_or (xs ++ x ∷ []) n d) (get_or l n e)) (sym items)
          (subst (λ w. P m w (get_or (ys ++ y ∷ []) n e)) (sym (get_or_append_left xs (x ∷ []) d n low)) (subst (λ w. P m (get_or xs n d) w) (sym (get_or_append_left ys (y ∷ []) e n also)) (s.2 d e))),
    )

some_new : {X Y : Type 0} (P : ℕ → X → Y → Type 0) (xs : List X) (ys new : List Y) (x : X) (y : Y) (m : ℕ) → new ≡ ys ++ y ∷ [] → length ys ≡ length xs → P m x y → SomePair (P m) (xs ++ x ∷ []) new
some_new P xs ys new x y m items same fits =
    let ends = length-append xs (x ∷ []) in (
      length xs,
      omega (arith, ends),
      λ d e. subst (λ l. P m (get_or (xs ++ x ∷ []) (length xs) d) (get_or l (length xs) e)) (sym items)
          (subst (λ w. P m w (get_or (ys ++ y ∷ []) (length xs) e)) (sym (get_or-append_seam xs x [] d)) (subst (λ w. P m x w) (sym (get_or_at ys y [] e (length xs) same)) fits)),
    )

-- the number r is a, which some two items fit, or b, which the next two fit
pub first_fits : {X Y : Type 0} (P : ℕ → X → Y → Type 0) (xs : List X) (ys new : List Y) (x : X) (y : Y) (a b r : Option ℕ) → new ≡ ys ++ y ∷ [] → length ys ≡ length xs
    → IfSome r (λ m. (a ≡ Some m) ⊎ (b ≡ Some m)) → IfSome a (λ m. SomePair (P m) xs ys) → IfSome b (λ m. P m x y) → IfSome r (λ m. SomePair (P m) (xs ++ x ∷ []) new)
first_fits P xs ys new x y a b r items same first old here = IfSome_then r first (λ m which. ⊎_elim
    (λ (e : a ≡ Some m). some_kept P xs ys new x y m items same (subst (λ (o : Option ℕ). IfSome o (λ k. SomePair (P k) xs ys)) e old))
    (λ (e : b ≡ Some m). some_new P xs ys new x y m items same (subst (λ (o : Option ℕ). IfSome o (λ k. P k x y)) e here))
    which)

-- of a pass that went on, and of the command behind
pub full_of_two : (P Q : ℕ → Type 0) (a b r : Option ℕ) → IfSome r (λ m. (a ≡ Some m) ⊎ (b ≡ Some m)) → ((m : ℕ) → P m → Q m) → IfSome a P → IfSome b Q → IfSome r Q
full_of_two P Q a b r first goes old here = IfSome_then r first (λ m which. ⊎_elim
    (λ (e : a ≡ Some m). goes m (subst (λ (o : Option ℕ). IfSome o P) e old))
    (λ (e : b ≡ Some m). subst (λ (o : Option ℕ). IfSome o Q) e here)
    which)

-- what is no higher than a group, the first of two groups is no higher than
no_higher_on : (a r : Option ℕ) (n : ℕ) → IfSome a (IsNoHigher r) → IsNoHigher a n → IsNoHigher r n
no_higher_on a r n first s =
    let goes : IsNoHigher r s.0 = subst (λ (o : Option ℕ). IfSome o (IsNoHigher r)) s.1 first in
    (goes.0, goes.1, omega (arith, goes.2, s.2))

-- and so of what a job met
pub lowest_on : (a r : Option ℕ) (came : Came) → IfSome a (IsNoHigher r) → NamesLowest a came → NamesLowest r came
lowest_on a r came first named = IfSome_then (met_full came) named (λ n s. no_higher_on a r n first s)

-- the awaits of a number

pub awaits_some : (apps n : ℕ) (xs : List Act) → 0 < length (awaits_for apps n xs) → n < apps
awaits_some apps n xs = by (nat_lt n apps) refl
  where
    by : (b : Bool) → nat_lt n apps ≡ b → 0 < length (if b then xs else []) → n < apps
    by true is some = less_is n apps is
    by false is some = absurd (omega (arith, some))

pub awaits_all : (P : Act → Type 0) (apps n : ℕ) (xs : List Act) → All P xs → All P (awaits_for apps n xs)
awaits_all P apps n xs all = by (nat_lt n apps)
  where
    by : (b : Bool) → All P (if b then xs else [])
    by true = all
    by false = λ k d lt. absurd (omega (arith, lt))

pub awaits_own : (apps n : ℕ) (xs : List Act) → n < apps → awaits_for apps n xs ≡ xs
awaits_own apps n xs low = by (nat_lt n apps) refl
  where
    by : (b : Bool) → nat_lt n apps ≡ b → (if b then xs else []) ≡ xs
    by true is = refl
    by false is = let yes : nat_lt n apps ≡ true = less n apps low in let both : true ≡ false = sym yes ∙ is in absurd (cc both)

pub awaits_none : (apps n : ℕ) (xs : List Act) → apps ≤ n → awaits_for apps n xs ≡ []
awaits_none apps n xs high = by (nat_lt n apps) refl
  where
    by : (b : Bool) → nat_lt n apps ≡ b → (if b then xs else []) ≡ []
    by true is = absurd (omega (arith, high, less_is n apps is))
    by false is = refl

-- the item that stands behind those so far
pub at_seam : {X : Type 0} (all ys rest : List X) (x d : X) → all ≡ ys ++ x ∷ rest → get_or all (length ys) d ≡ x
at_seam all ys rest x d is = ap (λ l. get_or l (length ys) d) is ∙ get_or-append_seam ys x rest d

-- The index of pairs, after one more.
use Rattle.std.proofs.Common.{◌≡◌, ℕ, zero, suc, ◌+◌, ◌<◌, List, [], ◌∷◌, ◌++◌, length, take, drop, get_or, Bool, true, false, cond, ◌==◌, ◌&&◌, ◌||◌, Option, Some, None, option_map, bytes_eq, refl, sym, ◌∙◌, ap, subst, add-one, drop-cons, arith}
use Rattle.std.specs.List.{list_any}
use Rattle.std.specs.Prelude.{if◌then◌else◌, not, slice_get}
use Rattle.std.proofs.lemmas.Bool.Decides.{nat_tests}
use Rattle.std.proofs.lemmas.List.{take_more}
use Rattle.std.proofs.lemmas.Slice.Eq.{bytes_eq-Decides}
use Rattle.std.proofs.lemmas.List.Folds.{list_any-append}
use Rattle.st_net.specs.declared.pairs.Pair.{Pair}
use Rattle.st_net.specs.declared.parts.DevicePart.{DevicePart}
use Rattle.st_net.specs.declared.parts.PromisePart.{PromisePart}
use Rattle.st_net.specs.Names.{place_of}
use Rattle.st_net.specs.Faults.{device_names, is_tor_name, is_on_names, was_promised, is_bad_pair, first_bad_pair}
use Rattle.st_net.specs.Pairs.{has_pair, is_paired}
use Rattle.st_net.specs.PairsInside.{IsPairOf, are_two_tors, TellPromised}

-- what is in neither order is not in this one
pub either_first : (p q : Bool) → (p || q) ≡ false → p ≡ false
either_first true q is = cc
either_first false q is = refl

-- a pair that is new goes last
pub pair_added : (keys more : List Pair) (pair : Pair) → more ≡ cond (list_any (λ p. pair.a == p.a && pair.b == p.b) keys) keys (keys ++ pair ∷ []) → has_pair pair.a pair.b keys ≡ false → more ≡ keys ++ pair ∷ []
pair_added keys more pair m n = rw (m, n) refl

equal_here : (a n : List ℕ) (ns : List (List ℕ)) (i : ℕ) → bytes_eq a n ≡ true → Some 0 ≡ Some i → slice_get (n ∷ ns) i ≡ Some a
equal_here a n ns zero e is = ap Some (sym ((bytes_eq-Decides a n).0 e))
equal_here a n ns (suc i) e is = let no : 0 ≡ suc i = cc in absurd (omega arith)

equal_later : (a n : List ℕ) (ns : List (List ℕ)) (i : ℕ) (o : Option ℕ) → option_map suc o ≡ Some i → ((k : ℕ) → o ≡ Some k → slice_get ns k ≡ Some a) → slice_get (n ∷ ns) i ≡ Some a
equal_later a n ns i None is later = cc
equal_later a n ns zero (Some k) is later = let no : suc k ≡ 0 = cc in absurd (omega arith)
equal_later a n ns (suc i) (Some k) is later = let same : suc k ≡ suc i = cc in let here : k ≡ i = omega arith in later i (ap Some here)

equal_at : (a n : List ℕ) (ns : List (List ℕ)) (i : ℕ) (b : Bool) → bytes_eq a n ≡ b → (if b then Some 0 else option_map suc (place_of a ns)) ≡ Some i → ((k : ℕ) → place_of a ns ≡ Some k → slice_get ns k ≡ Some a) → slice_get (n ∷ ns) i ≡ Some a
equal_at a n ns i true e is later = equal_here a n ns i e is
equal_at a n ns i false e is later = equal_later a n ns i (place_of a ns) is later

-- at the place of a name it stands
pub at_place : (a : List ℕ) (names : List (List ℕ)) (i : ℕ) → place_of a names ≡ Some i → slice_get names i ≡ Some a
at_place a [] i is = cc
at_place a (n ∷ ns) i is = equal_at a n ns i (bytes_eq a n) refl is (at_place a ns)

one_place_at : (a b : List ℕ) (names : List (List ℕ)) (i j : ℕ) (p q : Bool) → bytes_eq a b ≡ p → (i == j) ≡ q → place_of a names ≡ Some i → place_of b names ≡ Some j → p ≡ q
one_place_at a b names i j true true x y m n = refl
one_place_at a b names i j false false x y m n = refl
one_place_at a b names i j true false x y m n =
    let same : a ≡ b = (bytes_eq-Decides a b).0 x in
    let one : Some i ≡ Some j = sym m ∙ (ap (λ (name : List ℕ). place_of name names) same ∙ n) in
    let number : i ≡ j = cc in
    grind (arith, nat_tests)
one_place_at a b names i j false true x y m n =
    let number : i ≡ j = grind (arith, nat_tests) in
    let one : Some a ≡ Some b = sym (at_place a names i m) ∙ (ap (slice_get names) number ∙ at_place b names j n) in
    let same : a ≡ b = cc in
    sym x ∙ (bytes_eq-Decides a b).1 same

-- two names are one exactly where their places are
pub one_place : (a b : List ℕ) (names : List (List ℕ)) (i j : ℕ) → place_of a names ≡ Some i → place_of b names ≡ Some j → bytes_eq a b ≡ (i == j)
one_place a b names i j p q = one_place_at a b names i j (bytes_eq a b) (i == j) refl refl p q

pub or_none : (p : Bool) → (p || false) ≡ p
or_none true = refl
or_none false = refl

pub or_assoc : (p q r : Bool) → (p || (q || r)) ≡ ((p || q) || r)
or_assoc true q r = refl
or_assoc false q r = refl

or_among : (p q r s : Bool) → ((p || q) || (r || s)) ≡ ((p || r) || (q || s))
or_among true q r s = cc
or_among false true true s = refl
or_among false true false s = refl
or_among false false true s = refl
or_among false false false s = refl

pub was_promised_last : (a b : List ℕ) (ps : List PromisePart) (p : PromisePart) → was_promised a b (ps ++ p ∷ []) ≡ (was_promised a b ps || is_on_names a b p)
was_promised_last a b [] p = or_none (is_on_names a b p)
was_promised_last a b (q ∷ ps) p = rw (was_promised_last a b ps p) (or_assoc (is_on_names a b q) (was_promised a b ps) (is_on_names a b p))

has_pair_last : (i j : ℕ) (pairs : List Pair) (pair : Pair) → has_pair i j (pairs ++ pair ∷ []) ≡ (has_pair i j pairs || (i == pair.a && j == pair.b))
has_pair_last i j pairs pair = list_any-append (λ p. i == p.a && j == p.b) pairs (pair ∷ []) ∙ ap (λ b. has_pair i j pairs || b) (or_none (i == pair.a && j == pair.b))

equal_turned : (i j : ℕ) → (i == j) ≡ (j == i)
equal_turned i j = grind (arith, nat_tests)

-- a promise is on two names exactly where its numbers are theirs
on_numbers : (names : List (List ℕ)) (p : PromisePart) (pair : Pair) (a b : List ℕ) (i j : ℕ) → place_of p.a names ≡ Some pair.a → place_of p.b names ≡ Some pair.b → place_of a names ≡ Some i → place_of b names ≡ Some j → is_on_names a b p ≡ ((i == pair.a && j == pair.b) || (j == pair.a && i == pair.b))
on_numbers names p pair a b i j at_a at_b is_a is_b =
    rw (one_place p.a a names pair.a i at_a is_a, one_place p.b b names pair.b j at_b is_b, one_place p.a b names pair.a j at_a is_b, one_place p.b a names pair.b i at_b is_a, equal_turned pair.a i, equal_turned pair.b j, equal_turned pair.a j, equal_turned pair.b i) refl

-- the pairs tell of one promise more
pub tell_more : (names : List (List ℕ)) (ps : List PromisePart) (pairs : List Pair) (p : PromisePart) (pair : Pair) → place_of p.a names ≡ Some pair.a → place_of p.b names ≡ Some pair.b → TellPromised names ps pairs → TellPromised names (ps ++ p ∷ []) (pairs ++ pair ∷ [])
tell_more names ps pairs p pair at_a at_b tell a b i j is_a is_b =
    rw (was_promised_last a b ps p, tell a b i j is_a is_b, on_numbers names p pair a b i j at_a at_b is_a is_b, has_pair_last i j pairs pair, has_pair_last j i pairs pair)
    (or_among (has_pair i j pairs) (has_pair j i pairs) (i == pair.a && j == pair.b) (j == pair.a && i == pair.b))

-- what is no pair of two ToRs is bad
bad_tors : (s t same was : Bool) → (s && t && not same) ≡ false → (not s || not t || same || was) ≡ true
bad_tors false t same was is = refl
bad_tors true false same was is = refl
bad_tors true true true was is = refl
bad_tors true true false was is = cc

bad_was : (s t same was : Bool) → was ≡ true → (not s || not t || same || was) ≡ true
bad_was false t same was is = refl
bad_was true false same was is = refl
bad_was true true true was is = refl
bad_was true true false was is = is

good : (s t same was : Bool) → (s && t && not same) ≡ true → was ≡ false → (not s || not t || same || was) ≡ false
good false t same was is new = cc
good true false same was is new = cc
good true true true was is new = cc
good true true false was is new = new

module _ (devices : List DevicePart) (ps : List PromisePart) (at i : ℕ) (p : PromisePart) (low : i < length ps) (here : p ≡ get_or ps i p) where
  abbrev before : List PromisePart
  before = take i ps

  cut_here : drop i ps ≡ p ∷ drop (i + 1) ps
  cut_here = rw (add-one, drop-cons ps i p low) (ap (λ (q : PromisePart). q ∷ drop (suc i) ps) (sym here))

  more_here : take (i + 1) ps ≡ take i ps ++ p ∷ []
  more_here = take_more ps i p low ∙ ap (λ (q : PromisePart). take i ps ++ q ∷ []) (sym here)

  bad_at : is_bad_pair devices (take i ps) p ≡ true → first_bad_pair devices (take i ps) (at + i) (drop i ps) ≡ first_bad_pair devices [] at ps → Some (at + i) ≡ first_bad_pair devices [] at ps
  bad_at bad left = subst (λ (o : Option ℕ). o ≡ first_bad_pair devices [] at ps) (rw (cut_here, bad) refl) left

  pub bad_here : are_two_tors devices p ≡ false → first_bad_pair devices (take i ps) (at + i) (drop i ps) ≡ first_bad_pair devices [] at ps → Some (at + i) ≡ first_bad_pair devices [] at ps
  bad_here none left = bad_at (bad_tors (is_tor_name devices p.a) (is_tor_name devices p.b) (bytes_eq p.a p.b) (was_promised p.a p.b (take i ps)) none) left

  pub again_here : (pairs : List Pair) (pair : Pair) → IsPairOf devices p pair → is_paired pair.a pair.b pairs ≡ true → TellPromised (device_names devices) (take i ps) pairs → first_bad_pair devices (take i ps) (at + i) (drop i ps) ≡ first_bad_pair devices [] at ps → Some (at + i) ≡ first_bad_pair devices [] at ps
  again_here pairs pair of has tell left = bad_at (bad_was (is_tor_name devices p.a) (is_tor_name devices p.b) (bytes_eq p.a p.b) (was_promised p.a p.b (take i ps)) (tell p.a p.b pair.a pair.b of.a of.b ∙ has)) left

  pub passed_here : (pairs : List Pair) (pair : Pair) → IsPairOf devices p pair → is_paired pair.a pair.b pairs ≡ false → TellPromised (device_names devices) (take i ps) pairs → first_bad_pair devices (take i ps) (at + i) (drop i ps) ≡ first_bad_pair devices [] at ps → first_bad_pair devices (take (i + 1) ps) (at + (i + 1)) (drop (i + 1) ps) ≡ first_bad_pair devices [] at ps
  passed_here pairs pair of has tell left =
      let fine = good (is_tor_name devices p.a) (is_tor_name devices p.b) (bytes_eq p.a p.b) (was_promised p.a p.b (take i ps)) of.tors (tell p.a p.b pair.a pair.b of.a of.b ∙ has) in
      let number : at + (i + 1) ≡ at + i + 1 = omega arith in
      rw (number, more_here) (subst (λ (o : Option ℕ). o ≡ first_bad_pair devices [] at ps) (rw (cut_here, fine) refl) left)

  pub tell_here : (pairs : List Pair) (pair : Pair) → IsPairOf devices p pair → TellPromised (device_names devices) (take i ps) pairs → TellPromised (device_names devices) (take (i + 1) ps) (pairs ++ pair ∷ [])
  tell_here pairs pair of tell = subst (λ (qs : List PromisePart). TellPromised (device_names devices) qs (pairs ++ pair ∷ [])) (sym more_here) (tell_more (device_names devices) (take i ps) pairs p pair of.a of.b tell)

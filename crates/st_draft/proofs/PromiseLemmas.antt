-- The promised pairs, by the places of their devices.
use Rattle.std.proofs.Common.{◌≡◌, ℕ, suc, List, [], ◌∷◌, ◌++◌, map, ap, sym, ◌∙◌, subst, refl, arith, inl, inr}
use Rattle.std.specs.Prelude.{Bool, true, false, cond, ◌&&◌, ◌||◌, ◌==◌, ◌⊎◌, Option, Some, None, option_map, is_some, unwrap_or, bytes_eq}
use Rattle.std.specs.List.{AllByRecursion}
use Rattle.std.proofs.lemmas.List.{map_push}
use Rattle.std.proofs.lemmas.Slice.Eq.{bytes_eq-Decides}
use Rattle.st_net.proofs.Tests.{equal_self, equal_numbers}
use Rattle.st_net.proofs.NameLemmas.{place_kept, among_kept}
use Rattle.st_net.specs.declared.parts.DevicePart.{DevicePart}
use Rattle.st_net.specs.declared.parts.PromisePart.{PromisePart}
use Rattle.st_net.specs.declared.pairs.Pair.{Pair}
use Rattle.st_net.specs.Names.{place_of, is_among}
use Rattle.st_net.specs.Faults.{device_names, number_of, was_promised}
use Rattle.st_net.specs.Pairs.{has_pair, is_paired}
use Rattle.st_draft.specs.GroupInside.{pair_by, HasKnownEnds, HasPairs}

-- the first name is the one, or it stands further on
found_at : (same : Bool) (o : Option ℕ) (k : ℕ) → cond same (Some 0) (option_map suc o) ≡ Some k → ((same ≡ true) × (k ≡ 0)) ⊎ ((j : ℕ) × (k ≡ suc j) × (o ≡ Some j))
found_at true o k e = inl (refl, (cc))
found_at false None k e = absurd (cc)
found_at false (Some j) k e = inr (j, (cc), refl)

-- two names with one place are one
pub same_found : (x y : List ℕ) (ns : List (List ℕ)) (k : ℕ) → place_of x ns ≡ Some k → place_of y ns ≡ Some k → x ≡ y
same_found x y [] k p q = absurd (cc)
same_found x y (n ∷ ns) k p q = join (found_at (bytes_eq x n) (place_of x ns) k p) (found_at (bytes_eq y n) (place_of y ns) k q) (λ j r s. same_found x y ns j r s)
  where
    join : ((bytes_eq x n ≡ true) × (k ≡ 0)) ⊎ ((j : ℕ) × (k ≡ suc j) × (place_of x ns ≡ Some j)) → ((bytes_eq y n ≡ true) × (k ≡ 0)) ⊎ ((j : ℕ) × (k ≡ suc j) × (place_of y ns ≡ Some j))
        → ((j : ℕ) → place_of x ns ≡ Some j → place_of y ns ≡ Some j → x ≡ y) → x ≡ y
    join (inl a) (inl b) rest = (bytes_eq-Decides x n).0 a.0 ∙ sym ((bytes_eq-Decides y n).0 b.0)
    join (inl a) (inr b) rest = absurd (omega (arith, a.1, b.1))
    join (inr a) (inl b) rest = absurd (omega (arith, a.1, b.1))
    join (inr a) (inr b) rest = let same : b.0 ≡ a.0 = omega (arith, a.1, b.1) in rest a.0 a.2 (b.2 ∙ ap Some same)

-- a name that is among others has a place
pub has_place : (m : List ℕ) (o : Option ℕ) → is_some o ≡ true → o ≡ Some (unwrap_or o 0)
has_place m None e = absurd (cc)
has_place m (Some k) e = refl

equal_by : (m x : List ℕ) (ns : List (List ℕ)) (a k : ℕ) (b : Bool) → bytes_eq m x ≡ b → place_of x ns ≡ Some a → place_of m ns ≡ Some k → (a == k) ≡ b
equal_by m x ns a k true e p q =
    let one : m ≡ x = (bytes_eq-Decides m x).0 e in
    let places : place_of m ns ≡ place_of x ns = ap (λ (n : List ℕ). place_of n ns) one in
    let same : k ≡ a = cc in
    rw same (equal_self a)
equal_by m x ns a k false e p q = no (a == k) refl
  where
    no : (t : Bool) → (a == k) ≡ t → t ≡ false
    no true t = let same : a ≡ k = equal_numbers a k t in absurd (let one : bytes_eq m x ≡ true = (bytes_eq-Decides m x).1 (same_found m x ns k q (p ∙ ap Some same)) in cc)
    no false t = refl

-- a name that is among others is another one exactly where their places are the same
pub same_place : (m x : List ℕ) (ns : List (List ℕ)) (a : ℕ) → place_of x ns ≡ Some a → is_among m ns ≡ true → (a == number_of ns m) ≡ bytes_eq m x
same_place m x ns a p known = equal_by m x ns a (number_of ns m) (bytes_eq m x) refl p (has_place m (place_of m ns) known)

-- a name that is not among others is none of those that are
pub no_place : (m x : List ℕ) (ns : List (List ℕ)) → place_of x ns ≡ None → is_among m ns ≡ true → bytes_eq m x ≡ false
no_place m x ns p known = no (bytes_eq m x) refl
  where
    no : (b : Bool) → bytes_eq m x ≡ b → b ≡ false
    no false e = refl
    no true e =
        let places : place_of m ns ≡ place_of x ns = ap (λ (n : List ℕ). place_of n ns) ((bytes_eq-Decides m x).0 e) in
        absurd (let none : is_some (place_of m ns) ≡ false = ap is_some (places ∙ p) in cc)

-- whether a pair was promised, by the places of two names
abbrev pub promised_by : Option ℕ → Option ℕ → List Pair → Bool
promised_by (Some a) (Some b) pairs = is_paired a b pairs
promised_by (Some a) None pairs = false
promised_by None q pairs = false

four : (a b c d : Bool) → ((a || b) || (c || d)) ≡ ((a || c) || (b || d))
four true b c d = refl
four false true true d = refl
four false true false d = refl
four false false true d = refl
four false false false d = refl

and_none : (b : Bool) → (b && false) ≡ false
and_none true = refl
and_none false = refl

module _ (names : List (List ℕ)) (x y : List ℕ) where
  both_placed : (ps : List PromisePart) (a b : ℕ) → place_of x names ≡ Some a → place_of y names ≡ Some b → AllByRecursion (HasKnownEnds names) ps
      → (has_pair a b (map (pair_by names) ps) || has_pair b a (map (pair_by names) ps)) ≡ was_promised x y ps
  both_placed [] a b p q all = refl
  both_placed (h ∷ ps) a b p q all =
      four (a == number_of names h.a && b == number_of names h.b) (has_pair a b (map (pair_by names) ps)) (b == number_of names h.a && a == number_of names h.b) (has_pair b a (map (pair_by names) ps))
      ∙ rw (same_place h.a x names a p all.0.a, same_place h.b y names b q all.0.b, same_place h.a y names b q all.0.a, same_place h.b x names a p all.0.b, both_placed ps a b p q all.1) refl

  first_unplaced : (ps : List PromisePart) → place_of x names ≡ None → AllByRecursion (HasKnownEnds names) ps → false ≡ was_promised x y ps
  first_unplaced [] p all = refl
  first_unplaced (h ∷ ps) p all = rw (no_place h.a x names p all.0.a, no_place h.b x names p all.0.b, and_none (bytes_eq h.a y)) (first_unplaced ps p all.1)

  second_unplaced : (ps : List PromisePart) → place_of y names ≡ None → AllByRecursion (HasKnownEnds names) ps → false ≡ was_promised x y ps
  second_unplaced [] p all = refl
  second_unplaced (h ∷ ps) p all = rw (no_place h.a y names p all.0.a, no_place h.b y names p all.0.b, and_none (bytes_eq h.a x)) (second_unplaced ps p all.1)

  pub promised_is : (ps : List PromisePart) (a b : Option ℕ) → a ≡ place_of x names → b ≡ place_of y names → AllByRecursion (HasKnownEnds names) ps
      → promised_by a b (map (pair_by names) ps) ≡ was_promised x y ps
  promised_is ps (Some a) (Some b) p q all = both_placed ps a b (sym p) (sym q) all
  promised_is ps None b p q all = first_unplaced ps (sym p) all
  promised_is ps (Some a) None p q all = second_unplaced ps (sym q) all

-- what the index answers, as a group has it
pub promised : (devices : List DevicePart) (ps : List PromisePart) (pairs : List Pair) (names : List (List ℕ)) (x y : List ℕ) (a b : Option ℕ) → HasPairs devices ps pairs → names ≡ device_names devices
    → a ≡ place_of x names → b ≡ place_of y names → promised_by a b pairs ≡ was_promised x y ps
promised devices ps pairs names x y a b had n p q = rw had.pair_index (promised_is (device_names devices) x y ps a b (p ∙ ap (place_of x) n) (q ∙ ap (place_of y) n) had.known)

-- one more device
pairs_kept : (ns : List (List ℕ)) (n : List ℕ) (ps : List PromisePart) → AllByRecursion (HasKnownEnds ns) ps → map (pair_by (ns ++ n ∷ [])) ps ≡ map (pair_by ns) ps
pairs_kept ns n [] all = refl
pairs_kept ns n (p ∷ ps) all = rw (place_kept p.a n ns all.0.a, place_kept p.b n ns all.0.b, pairs_kept ns n ps all.1) refl

known_kept : (ns : List (List ℕ)) (n : List ℕ) (ps : List PromisePart) → AllByRecursion (HasKnownEnds ns) ps → AllByRecursion (HasKnownEnds (ns ++ n ∷ [])) ps
known_kept ns n [] all = tt
known_kept ns n (p ∷ ps) all = (record { a = among_kept p.a n ns all.0.a; b = among_kept p.b n ns all.0.b }, known_kept ns n ps all.1)

pub pairs_with_device : (devices more : List DevicePart) (d : DevicePart) (ps : List PromisePart) (pairs : List Pair) → more ≡ devices ++ d ∷ [] → HasPairs devices ps pairs → HasPairs more ps pairs
pairs_with_device devices more d ps pairs m had =
    let names : device_names more ≡ device_names devices ++ d.name ∷ [] = rw m (map_push (λ (d : DevicePart). d.name) devices d) in
    record {
      pair_index = rw (names, pairs_kept (device_names devices) d.name ps had.known) had.pair_index;
      known = subst (λ (ns : List (List ℕ)). AllByRecursion (HasKnownEnds ns) ps) (sym names) (known_kept (device_names devices) d.name ps had.known);
    }

all_pushed : (ns : List (List ℕ)) (ps : List PromisePart) (p : PromisePart) → AllByRecursion (HasKnownEnds ns) ps → HasKnownEnds ns p → AllByRecursion (HasKnownEnds ns) (ps ++ p ∷ [])
all_pushed ns [] p all known = (known, tt)
all_pushed ns (q ∷ ps) p all known = (all.0, all_pushed ns ps p all.1 known)

-- one more promise
pub promise_added : (devices : List DevicePart) (ps more : List PromisePart) (pairs now : List Pair) (p : PromisePart) → HasPairs devices ps pairs → more ≡ ps ++ p ∷ []
    → now ≡ pairs ++ pair_by (device_names devices) p ∷ [] → HasKnownEnds (device_names devices) p → HasPairs devices more now
promise_added devices ps more pairs now p had m n known = record {
  pair_index = rw (n, m, map_push (pair_by (device_names devices)) ps p, had.pair_index) refl;
  known = rw m (all_pushed (device_names devices) ps p had.known known);
}

first_false : (a b : Bool) → (a || b) ≡ false → a ≡ false
first_false true b e = absurd (cc)
first_false false b e = refl

-- a pair that was not promised is not in the index
pub not_promised : (devices : List DevicePart) (ps : List PromisePart) (pairs : List Pair) (p : PromisePart) → HasPairs devices ps pairs → HasKnownEnds (device_names devices) p → was_promised p.a p.b ps ≡ false
    → has_pair (number_of (device_names devices) p.a) (number_of (device_names devices) p.b) pairs ≡ false
not_promised devices ps pairs p had known none =
    let x : place_of p.a (device_names devices) ≡ Some (number_of (device_names devices) p.a) = has_place p.a (place_of p.a (device_names devices)) known.a in
    let y : place_of p.b (device_names devices) ≡ Some (number_of (device_names devices) p.b) = has_place p.b (place_of p.b (device_names devices)) known.b in
    first_false (has_pair (number_of (device_names devices) p.a) (number_of (device_names devices) p.b) pairs) (has_pair (number_of (device_names devices) p.b) (number_of (device_names devices) p.a) pairs)
    (promised devices ps pairs (device_names devices) p.a p.b (Some (number_of (device_names devices) p.a)) (Some (number_of (device_names devices) p.b)) had refl (sym x) (sym y) ∙ none)

-- the pair of a promise that is added, by the numbers that the code found
pub new_pair : (devices now : List DevicePart) (ps before : List PromisePart) (pairs : List Pair) (p : PromisePart) (x y : List ℕ) (n m : ℕ) → HasPairs devices ps pairs → devices ≡ now → ps ≡ before → x ≡ p.a → y ≡ p.b
    → n ≡ number_of (device_names now) x → m ≡ number_of (device_names now) y → HasKnownEnds (device_names now) p → was_promised p.a p.b before ≡ false → has_pair n m pairs ≡ false
new_pair devices now ps before pairs p x y n m had d q a b e f known none =
    rw (e, f, a, b, ← d) (not_promised devices ps pairs p had (subst (λ (ds : List DevicePart). HasKnownEnds (device_names ds) p) (sym d) known) (subst (λ (qs : List PromisePart). was_promised p.a p.b qs ≡ false) (sym q) none))

pub pair_kept : (devices now : List DevicePart) (ps more : List PromisePart) (pairs after : List Pair) (p : PromisePart) (x y : List ℕ) (n m : ℕ) → HasPairs devices ps pairs → devices ≡ now → x ≡ p.a → y ≡ p.b
    → n ≡ number_of (device_names now) x → m ≡ number_of (device_names now) y → HasKnownEnds (device_names now) p → more ≡ ps ++ p ∷ [] → after ≡ pairs ++ record { a = n; b = m } ∷ [] → HasPairs devices more after
pair_kept devices now ps more pairs after p x y n m had d a b e f known is pushed =
    promise_added devices ps more pairs after p had is (rw (pushed, e, f, a, b, ← d) refl) (subst (λ (ds : List DevicePart). HasKnownEnds (device_names ds) p) (sym d) known)

-- Names that are indexed one after another, and the first that stands twice.
use Rattle.std.proofs.Common.{◌≡◌, ℕ, suc, ◌+◌, ◌<◌, List, [], ◌∷◌, ◌++◌, length, map, take, drop, get_or, Bool, true, false, not, ◌&&◌, ◌||◌, Option, Some, None, option_map, is_some, refl, sym, ◌∙◌, ap, subst, add-one, drop-cons, append_assoc, arith}
use Rattle.std.proofs.lemmas.List.{append-nil}
use Rattle.std.specs.Prelude.{if◌then◌else◌, bytes_eq}
use Rattle.std.proofs.lemmas.List.{take_more, map-append}
use Rattle.st_net.specs.declared.parts.Parts.{Parts}
use Rattle.st_net.specs.declared.parts.TopoFault.TheVariants.{TwiceName}
use Rattle.st_net.specs.Names.{place_of, is_among, is_name}
use Rattle.st_net.specs.Groups.{are_names, are_new}
use Rattle.st_net.specs.Faults.{first_twice, place_or, device_names, link_names, fault_of}
use Rattle.st_net.specs.declared.parts.DevicePart.{DevicePart}
use Rattle.st_net.specs.declared.parts.LinkPart.{LinkPart}
use Rattle.st_net.specs.declared.build.Indexed.{Indexed}
use Rattle.st_net.specs.declared.build.Indexed.TheVariants.{Names, Twice}
use Rattle.st_net.specs.Building.{IsIndexOf, later_fault_of}
use Rattle.st_net.proofs.NamePlaces.{some_too}

and_assoc : (p q r : Bool) → (p && (q && r)) ≡ ((p && q) && r)
and_assoc true q r = refl
and_assoc false q r = refl

named_append : (xs ys : List (List ℕ)) → are_names (xs ++ ys) ≡ (are_names xs && are_names ys)
named_append [] ys = refl
named_append (x ∷ xs) ys = rw (named_append xs ys) (and_assoc (is_name x) (are_names xs) (are_names ys))

-- names before names are names
pub named_both : (xs ys : List (List ℕ)) → are_names xs ≡ true → are_names ys ≡ true → are_names (xs ++ ys) ≡ true
named_both xs ys p q = rw (named_append xs ys, p, q) refl

among_at : (b : Bool) (m a : Option ℕ) (q : Bool) → is_some m ≡ (is_some a || q) → is_some (if b then Some 0 else option_map suc m) ≡ (is_some (if b then Some 0 else option_map suc a) || q)
among_at true m a q is = refl
among_at false m a q is = sym (some_too m) ∙ (is ∙ ap (λ p. p || q) (some_too a))

-- a name is among two lists exactly where it is among one of them
pub among_both : (name : List ℕ) (xs ys : List (List ℕ)) → is_among name (xs ++ ys) ≡ (is_among name xs || is_among name ys)
among_both name [] ys = refl
among_both name (x ∷ xs) ys = among_at (bytes_eq name x) (place_of name (xs ++ ys)) (place_of name xs) (is_among name ys) (among_both name xs ys)

second_false : (p q : Bool) → (p || q) ≡ false → q ≡ false
second_false true q is = cc
second_false false q is = is

pub new_among_second : (name : List ℕ) (xs ys : List (List ℕ)) → is_among name (xs ++ ys) ≡ false → is_among name ys ≡ false
new_among_second name xs ys is = second_false (is_among name xs) (is_among name ys) (sym (among_both name xs ys) ∙ is)

module _ {X : Type 0} (f : X → List ℕ) (xs : List X) (i : ℕ) (x : X) (low : i < length xs) (here : x ≡ get_or xs i x) where
  names_here : map f (drop i xs) ≡ f x ∷ map f (drop (i + 1) xs)
  names_here = rw (add-one, drop-cons xs i x low) (ap (λ (y : X). f y ∷ map f (drop (suc i) xs)) (sym here))

  -- one name more was added
  pub added_here : map f (take i xs) ++ f x ∷ [] ≡ map f (take (i + 1) xs)
  added_here = rw (take_more xs i x low, map-append f (take i xs) (get_or xs i x ∷ [])) (ap (λ (y : X). map f (take i xs) ++ f y ∷ []) here)

  -- the name stands twice
  pub twice_here : (before : List (List ℕ)) (place : ℕ) (found : Option ℕ) → is_among (f x) before ≡ true → first_twice before place (map f (drop i xs)) ≡ found → found ≡ Some place
  twice_here before place found is left = sym left ∙ rw (names_here, is) refl

  -- or it is new
  pub new_here : (before : List (List ℕ)) (place next : ℕ) (found : Option ℕ) → next ≡ place + 1 → is_among (f x) before ≡ false → first_twice before place (map f (drop i xs)) ≡ found → first_twice (before ++ f x ∷ []) next (map f (drop (i + 1) xs)) ≡ found
  new_here before place next found is new left = rw is (subst (λ (o : Option ℕ). o ≡ found) (rw (names_here, new) refl) left)

-- the first that stands twice among two lists
twice_step : (p : Bool) (at : ℕ) (a b rest : Option ℕ) → rest ≡ place_or a b → (if p then Some at else rest) ≡ place_or (if p then Some at else a) b
twice_step true at a b rest is = refl
twice_step false at a b rest is = is

pub twice_append : (before : List (List ℕ)) (at next : ℕ) (xs ys : List (List ℕ)) → next ≡ at + length xs → first_twice before at (xs ++ ys) ≡ place_or (first_twice before at xs) (first_twice (before ++ xs) next ys)
twice_append before at next [] ys is = let same : next ≡ at = omega arith in rw (same, append-nil before) refl
twice_append before at next (x ∷ xs) ys is =
    let later : next ≡ at + 1 + length xs = omega arith in
    twice_step (is_among x before) at (first_twice (before ++ x ∷ []) (at + 1) xs) (first_twice (before ++ x ∷ xs) next ys) (first_twice (before ++ x ∷ []) (at + 1) (xs ++ ys))
    (twice_append (before ++ x ∷ []) (at + 1) next xs ys later ∙ ap (λ (ns : List (List ℕ)). place_or (first_twice (before ++ x ∷ []) (at + 1) xs) (first_twice ns next ys)) (append_assoc before (x ∷ []) xs))

new_step : (b new : Bool) (at : ℕ) (rest : Option ℕ) → (if b then Some at else rest) ≡ None → (rest ≡ None → new ≡ true) → (not b && new) ≡ true
new_step true new at rest is later = cc
new_step false new at rest is later = later is

-- where no name stands twice each is new
pub all_new : (before : List (List ℕ)) (at : ℕ) (xs : List (List ℕ)) → first_twice before at xs ≡ None → are_new before xs ≡ true
all_new before at [] is = refl
all_new before at (x ∷ xs) is = new_step (is_among x before) (are_new (before ++ x ∷ []) xs) at (first_twice (before ++ x ∷ []) (at + 1) xs) is (all_new (before ++ x ∷ []) (at + 1) xs)

-- what an index of all names says
index_named : (before : List (List ℕ)) (at : ℕ) (names : List (List ℕ)) (x : Indexed) (indexed : List (List ℕ)) → IsIndexOf before at names x → x ≡ Names indexed → (first_twice before at names ≡ None) × (indexed ≡ names) × (are_names names ≡ true)
index_named before at names x indexed is e = rw e at is

index_twice : (before : List (List ℕ)) (at : ℕ) (names : List (List ℕ)) (x : Indexed) (place : ℕ) → IsIndexOf before at names x → x ≡ Twice place → first_twice before at names ≡ Some place
index_twice before at names x place is e = rw e at is

module _ (parts : Parts) (devices : List (List ℕ)) (are : devices ≡ device_names parts.devices) where
  all_names : first_twice [] 0 (device_names parts.devices ++ link_names parts.links) ≡ place_or (first_twice [] 0 (device_names parts.devices)) (first_twice devices (length devices) (link_names parts.links))
  all_names =
      let same = ap length are in
      let many : length devices ≡ 0 + length (device_names parts.devices) = omega (arith, same) in
      twice_append [] 0 (length devices) (device_names parts.devices) (link_names parts.links) many ∙ ap (λ (ns : List (List ℕ)). place_or (first_twice [] 0 (device_names parts.devices)) (first_twice ns (length devices) (link_names parts.links))) (sym are)

  twice_among_devices : (place : ℕ) → first_twice [] 0 (device_names parts.devices) ≡ Some place → fault_of parts ≡ Some (TwiceName place)
  twice_among_devices place is = rw (all_names, is) refl

  twice_among_links : (place : ℕ) → first_twice [] 0 (device_names parts.devices) ≡ None → first_twice devices (length devices) (link_names parts.links) ≡ Some place → fault_of parts ≡ Some (TwiceName place)
  twice_among_links place none is = rw (all_names, none, is) refl

  not_twice : first_twice [] 0 (device_names parts.devices) ≡ None → first_twice devices (length devices) (link_names parts.links) ≡ None → fault_of parts ≡ later_fault_of parts
  not_twice none none_more = rw (all_names, none, none_more) refl

-- a device's name that stands twice is the first fault
pub twice_device : (parts : Parts) (ds : List DevicePart) (x : Indexed) (place : ℕ) → ds ≡ parts.devices → IsIndexOf [] 0 (device_names ds) x → x ≡ Twice place → fault_of parts ≡ Some (TwiceName place)
twice_device parts ds x place same is e = twice_among_devices parts (device_names parts.devices) refl place (rw (← same) (index_twice [] 0 (device_names ds) x place is e))

module _ (parts : Parts) (ds : List DevicePart) (x : Indexed) (names : List (List ℕ)) (same : ds ≡ parts.devices) (is : IsIndexOf [] 0 (device_names ds) x) (e : x ≡ Names names) (ls : List LinkPart) (y : Indexed) (same_links : ls ≡ parts.links) (is_more : IsIndexOf names (length names) (link_names ls) y) where
  named_devices : (first_twice [] 0 (device_names parts.devices) ≡ None) × (names ≡ device_names parts.devices) × (are_names (device_names parts.devices) ≡ true)
  named_devices = rw (← same) (index_named [] 0 (device_names ds) x names is e)

  -- or a link's, where no device's does
  pub twice_link : (place : ℕ) → y ≡ Twice place → fault_of parts ≡ Some (TwiceName place)
  twice_link place twice = twice_among_links parts names named_devices.1 place named_devices.0 (rw (← same_links) (index_twice names (length names) (link_names ls) y place is_more twice))

  pub named_links : (more : List (List ℕ)) → y ≡ Names more → (first_twice names (length names) (link_names parts.links) ≡ None) × (more ≡ link_names parts.links) × (are_names (link_names parts.links) ≡ true)
  named_links more all = rw (← same_links) (index_named names (length names) (link_names ls) y more is_more all)

  -- names of which none stands twice are names, and the fault is a later one
  pub all_named : (more : List (List ℕ)) → y ≡ Names more → are_names (names ++ more) ≡ true
  all_named more all = rw (named_devices.1, (named_links more all).1) (named_both (device_names parts.devices) (link_names parts.links) named_devices.2 (named_links more all).2)

  pub fault_is_later : (more : List (List ℕ)) → y ≡ Names more → fault_of parts ≡ later_fault_of parts
  fault_is_later more all = not_twice parts names named_devices.1 named_devices.0 (named_links more all).0

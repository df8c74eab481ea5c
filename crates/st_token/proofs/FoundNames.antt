-- In a group that is built each entity has a name that finds it.
use Rattle.std.proofs.Common.{◌≡◌, ℕ, zero, suc, ◌<◌, List, [], ◌∷◌, ◌++◌, length, ap, sym, subst, refl, arith}
use Rattle.std.specs.Prelude.{Bool, true, false, not, cond, Option, Some, None, option_map, is_some, bytes_eq, slice_index_or}
use Rattle.std.proofs.lemmas.List.{append-nil, append_assoc}
use Rattle.std.proofs.lemmas.Slice.Eq.{bytes_eq-Decides}
use Rattle.st_net.proofs.NameLemmas.{not_first}
use Rattle.st_net.proofs.Tests.{both, turned}
use Rattle.st_net.specs.declared.entity.Entity.{Entity}
use Rattle.st_net.specs.declared.entity.Entity.TheVariants.{Device, Link}
use Rattle.st_net.specs.Names.{is_name, place_of, is_among}
use Rattle.st_net.specs.Groups.{Group, IsSound, IsEntityOf, find_in, name_of, are_new, are_names, entity_or}
use Rattle.st_token.specs.ReadingBack.{IsNamed}

abbrev pub name_at : List (List ℕ) → ℕ → List ℕ
name_at names i = slice_index_or names i []

-- a name that stands at a place of spelled names is spelled
pub spelled_at : (names : List (List ℕ)) (i : ℕ) → are_names names ≡ true → i < length names → is_name (name_at names i) ≡ true
spelled_at [] i all low = absurd (omega arith)
spelled_at (n ∷ ns) zero all low = (both (is_name n) (are_names ns) all).0
spelled_at (n ∷ ns) (suc i) all low = spelled_at ns i (both (is_name n) (are_names ns) all).1 (omega arith)

names_split : (xs ys : List (List ℕ)) → are_names (xs ++ ys) ≡ true → (are_names xs ≡ true) × (are_names ys ≡ true)
names_split [] ys all = (refl, all)
names_split (x ∷ xs) ys all =
    let parts = both (is_name x) (are_names (xs ++ ys)) all in
    let rest = names_split xs ys parts.1 in
    (rw (parts.0, rest.0) refl, rest.1)

not_later : (b : Bool) (o : Option ℕ) → b ≡ false → is_some o ≡ false → is_some (cond b (Some 0) (option_map suc o)) ≡ false
not_later true o e h = absurd (cc)
not_later false None e h = refl
not_later false (Some n) e h = absurd (cc)

-- a name that is not among others and one more is not that one
not_last : (m n : List ℕ) (before : List (List ℕ)) → is_among m (before ++ n ∷ []) ≡ false → (is_among m before ≡ false) × (bytes_eq m n ≡ false)
not_last m n [] e = (refl, (not_first (bytes_eq m n) None e).0)
not_last m n (b ∷ before) e =
    let here = not_first (bytes_eq m b) (place_of m (before ++ n ∷ [])) e in
    let rest = not_last m n before here.1 in
    (not_later (bytes_eq m b) (place_of m before) here.0 rest.0, rest.1)

-- a new name is not among those before it
new_at : (before names : List (List ℕ)) (i : ℕ) → are_new before names ≡ true → i < length names → is_among (name_at names i) before ≡ false
new_at before [] i new low = absurd (omega arith)
new_at before (n ∷ ns) zero new low = turned (is_among n before) (both (not (is_among n before)) (are_new (before ++ n ∷ []) ns) new).0
new_at before (n ∷ ns) (suc i) new low =
    (not_last (name_at ns i) n before (new_at (before ++ n ∷ []) ns i (both (not (is_among n before)) (are_new (before ++ n ∷ []) ns) new).1 (omega arith))).0

place_first : (b : Bool) (o : Option ℕ) → b ≡ true → cond {A = Option ℕ} b (Some 0) (option_map suc o) ≡ Some 0
place_first true o e = refl
place_first false o e = absurd (cc)

place_later : (b : Bool) (o : Option ℕ) (i : ℕ) → b ≡ false → o ≡ Some i → cond {A = Option ℕ} b (Some 0) (option_map suc o) ≡ Some (suc i)
place_later true o i e h = absurd (cc)
place_later false o i e h = ap (option_map suc) h

-- among new names each has its place
pub place_at : (before names : List (List ℕ)) (i : ℕ) → are_new before names ≡ true → i < length names → place_of (name_at names i) names ≡ Some i
place_at before [] i new low = absurd (omega arith)
place_at before (n ∷ ns) zero new low = place_first (bytes_eq n n) (place_of n ns) ((bytes_eq-Decides n n).1 refl)
place_at before (n ∷ ns) (suc i) new low =
    let rest = (both (not (is_among n before)) (are_new (before ++ n ∷ []) ns) new).1 in
    let apart = (not_last (name_at ns i) n before (new_at (before ++ n ∷ []) ns i rest (omega arith))).1 in
    place_later (bytes_eq (name_at ns i) n) (place_of (name_at ns i) ns) i apart (place_at (before ++ n ∷ []) ns i rest (omega arith))

new_front : (before xs ys : List (List ℕ)) → are_new before (xs ++ ys) ≡ true → are_new before xs ≡ true
new_front before [] ys new = refl
new_front before (x ∷ xs) ys new =
    let parts = both (not (is_among x before)) (are_new (before ++ x ∷ []) (xs ++ ys)) new in
    rw (parts.0, new_front (before ++ x ∷ []) xs ys parts.1) refl

new_behind : (before xs ys : List (List ℕ)) → are_new before (xs ++ ys) ≡ true → are_new (before ++ xs) ys ≡ true
new_behind before [] ys new = subst (λ (ns : List (List ℕ)). are_new ns ys ≡ true) (sym (append-nil before)) new
new_behind before (x ∷ xs) ys new =
    let parts = both (not (is_among x before)) (are_new (before ++ x ∷ []) (xs ++ ys)) new in
    subst (λ (ns : List (List ℕ)). are_new ns ys ≡ true) (append_assoc before (x ∷ []) xs) (new_behind (before ++ x ∷ []) xs ys parts.1)

unplaced : (o : Option ℕ) → is_some o ≡ false → o ≡ None
unplaced None e = refl
unplaced (Some n) e = absurd (cc)

device_found : (p q : Option ℕ) (i : ℕ) → p ≡ Some i → entity_or (option_map Device p) (option_map Link q) ≡ Some (Device i)
device_found p q i e = rw e refl

link_found : (p q : Option ℕ) (i : ℕ) → p ≡ None → q ≡ Some i → entity_or (option_map Device p) (option_map Link q) ≡ Some (Link i)
link_found p q i e h = rw (e, h) refl

pub named : (g : Group) (e : Entity) → IsSound g → IsEntityOf g e → IsNamed (find_in g) (name_of g e) e
named g (Device i) s low =
    let within : i < length g.device_names = rw s.device_names low in
    record {
      spelled = spelled_at g.device_names i (names_split g.device_names g.link_names s.names).0 within;
      found = device_found (place_of (name_at g.device_names i) g.device_names) (place_of (name_at g.device_names i) g.link_names) i (place_at [] g.device_names i (new_front [] g.device_names g.link_names s.new) within);
    }
named g (Link i) s low =
    let within : i < length g.link_names = rw s.link_names low in
    let new : are_new g.device_names g.link_names ≡ true = new_behind [] g.device_names g.link_names s.new in
    record {
      spelled = spelled_at g.link_names i (names_split g.device_names g.link_names s.names).1 within;
      found = link_found (place_of (name_at g.link_names i) g.device_names) (place_of (name_at g.link_names i) g.link_names) i (unplaced (place_of (name_at g.link_names i) g.device_names) (new_at g.device_names g.link_names i new within)) (place_at g.device_names g.link_names i new within);
    }

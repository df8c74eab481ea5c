-- Names that are declared are spelled as names, and keep their places.
use Rattle.std.proofs.Common.{◌≡◌, ℕ, suc, List, [], ◌∷◌, ◌++◌, Bool, true, false, cond, Option, Some, None, OnSome, option_map, is_some, bytes_eq, ap, subst, sym, ◌∙◌, refl}
use Rattle.std.proofs.lemmas.Slice.Eq.{bytes_eq-Decides}
use Rattle.st_net.proofs.Tests.{both}
use Rattle.st_net.specs.Names.{place_of, is_among, is_name}
use Rattle.st_net.specs.Groups.{are_names}

here_or_later : (name n : List ℕ) (ns : List (List ℕ)) (same : Bool) → bytes_eq name n ≡ same → is_name n ≡ true
    → (is_some (place_of name ns) ≡ true → is_name name ≡ true) → is_some (cond same (Some 0) (option_map suc (place_of name ns))) ≡ true → is_name name ≡ true
here_or_later name n ns true e spelled rest found = subst (λ (m : List ℕ). is_name m ≡ true) (sym ((bytes_eq-Decides name n).0 e)) spelled
here_or_later name n ns false e spelled rest found = later (place_of name ns) rest found
  where
    later : (o : Option ℕ) → (is_some o ≡ true → is_name name ≡ true) → is_some (option_map suc o) ≡ true → is_name name ≡ true
    later None rest found = absurd (cc)
    later (Some n) rest found = rest refl

-- a name that is found is spelled as one
pub found_spelled : (name : List ℕ) (ns : List (List ℕ)) → are_names ns ≡ true → is_some (place_of name ns) ≡ true → is_name name ≡ true
found_spelled name [] all found = absurd (cc)
found_spelled name (n ∷ ns) all found =
    let parts : (is_name n ≡ true) × (are_names ns ≡ true) = both (is_name n) (are_names ns) all in
    here_or_later name n ns (bytes_eq name n) refl parts.0 (found_spelled name ns parts.1) found

pub names_added : (ns : List (List ℕ)) (name : List ℕ) → are_names ns ≡ true → is_name name ≡ true → are_names (ns ++ name ∷ []) ≡ true
names_added [] name all spelled = rw spelled refl
names_added (n ∷ ns) name all spelled =
    let parts : (is_name n ≡ true) × (are_names ns ≡ true) = both (is_name n) (are_names ns) all in
    rw (parts.0, names_added ns name parts.1 spelled) refl

pub when_found : (name : List ℕ) (ns : List (List ℕ)) (found : Option ℕ) → are_names ns ≡ true → found ≡ place_of name ns → OnSome found (is_name name ≡ true)
when_found name ns None all e = tt
when_found name ns (Some n) all e = found_spelled name ns all (rw (← e) refl)

-- behind the names stands one more
pub place_kept : (m n : List ℕ) (ns : List (List ℕ)) → is_among m ns ≡ true → place_of m (ns ++ n ∷ []) ≡ place_of m ns
place_kept m n [] e = absurd (cc)
place_kept m n (k ∷ ns) e = step (bytes_eq m k) (place_of m ns) (place_of m (ns ++ n ∷ [])) e (λ later. place_kept m n ns later)
  where
    step : (b : Bool) (o more : Option ℕ) → is_some (cond b (Some 0) (option_map suc o)) ≡ true → (is_some o ≡ true → more ≡ o) → cond {A = Option ℕ} b (Some 0) (option_map suc more) ≡ cond b (Some 0) (option_map suc o)
    step true o more e rest = refl
    step false None more e rest = absurd (cc)
    step false (Some j) more e rest = ap (option_map suc) (rest refl)

pub among_kept : (m n : List ℕ) (ns : List (List ℕ)) → is_among m ns ≡ true → is_among m (ns ++ n ∷ []) ≡ true
among_kept m n ns e = ap is_some (place_kept m n ns e) ∙ e

-- a name that is not among others is not the first, and not among the rest
pub not_first : (b : Bool) (o : Option ℕ) → is_some (cond b (Some 0) (option_map suc o)) ≡ false → (b ≡ false) × (is_some o ≡ false)
not_first true o e = absurd (cc)
not_first false None e = (refl, refl)
not_first false (Some n) e = absurd (cc)

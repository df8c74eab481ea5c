-- Lists that grow by what each item of another list adds.
use Rattle.std.proofs.Common.{◌≡◌, ◌∙◌, ℕ, ◌+◌, ◌<◌, List, [], ◌∷◌, ◌++◌, Bool, true, false, cond, length, get_or, map, take, refl, sym, ap, append_assoc}
use Rattle.std.specs.Prelude.{flat_map, Result, Ok, Err, IfOk}
use Rattle.std.specs.List.{filter, list_all}
use Rattle.std.proofs.lemmas.List.{flat_map_more, take_more, map-append}
use Rattle.std.proofs.lemmas.List.Folds.{list_all_at, list_all_more}

-- one more item
pub flat_next : {X Y : Type 0} (f : X → List Y) (xs : List X) (i : ℕ) (x d : X) (old mid new : List Y) → i < length xs → x ≡ get_or xs i d → mid ≡ old ++ flat_map f (take i xs) → new ≡ mid ++ f x → new ≡ old ++ flat_map f (take (i + 1) xs)
flat_next f xs i x d old mid new within is before added =
    added
    ∙ (ap (λ t. t ++ f x) before
    ∙ (flat_map_more f old (take i xs) x ∙ ap (λ ys. old ++ flat_map f ys) (ap (λ y. take i xs ++ y ∷ []) is ∙ sym (take_more xs i d within))))

-- what is made of the items that pass a test
chosen_one : {X Y : Type 0} (h : X → Y) (b : Bool) (x : X) (rest : List X) → map h (cond b (x ∷ rest) rest) ≡ cond b (h x ∷ []) [] ++ map h rest
chosen_one h true x rest = refl
chosen_one h false x rest = refl

pub chosen : {X Y : Type 0} (p : X → Bool) (h : X → Y) (xs : List X) → map h (filter p xs) ≡ flat_map (λ x. cond (p x) (h x ∷ []) []) xs
chosen p h [] = refl
chosen p h (x ∷ xs) = chosen_one h (p x) x (filter p xs) ∙ ap (λ t. cond (p x) (h x ∷ []) [] ++ t) (chosen p h xs)

-- something made twice
pub map_twice : {X Y Z : Type 0} (k : Y → Z) (h : X → Y) (xs : List X) → map k (map h xs) ≡ map (λ x. k (h x)) xs
map_twice k h [] = refl
map_twice k h (x ∷ xs) = ap (λ t. k (h x) ∷ t) (map_twice k h xs)

pub map_flat : {X Y Z : Type 0} (k : Y → Z) (f : X → List Y) (xs : List X) → map k (flat_map f xs) ≡ flat_map (λ x. map k (f x)) xs
map_flat k f [] = refl
map_flat k f (x ∷ xs) = map-append k (f x) (flat_map f xs) ∙ ap (λ t. map k (f x) ++ t) (map_flat k f xs)

-- texts that are printed one behind another
pub four_added : (old one two three new a b c d : List ℕ) → one ≡ old ++ a → two ≡ one ++ b → three ≡ two ++ c → new ≡ three ++ d → new ≡ old ++ (a ++ b ++ c ++ d)
four_added old one two three new a b c d first second third last =
    last ∙ (ap (λ t. t ++ d) (third ∙ ap (λ t. t ++ c) (second ∙ ap (λ t. t ++ b) first)) ∙
    simp append_assoc)

-- a test that each item passes
pub all_next : {X : Type 0} (p : X → Bool) (xs : List X) (i : ℕ) (x d : X) → i < length xs → x ≡ get_or xs i d → list_all p (take i xs) ≡ true → p x ≡ true → list_all p (take (i + 1) xs) ≡ true
all_next p xs i x d within is before here = list_all_more p xs i d within ∙ rw (before, ap p (sym is) ∙ here) refl

passes : {X : Type 0} (p : X → Bool) (xs : List X) (i : ℕ) (d : X) (b : Bool) → i < length xs → list_all p xs ≡ true → p (get_or xs i d) ≡ b → p (get_or xs i d) ≡ true
passes p xs i d true within all here = here
passes p xs i d false within all here = let none = list_all_at p xs i d within here in cc

pub all_at : {X : Type 0} (p : X → Bool) (xs : List X) (i : ℕ) (x d : X) → i < length xs → x ≡ get_or xs i d → list_all p xs ≡ true → p x ≡ true
all_at p xs i x d within is all = ap p is ∙ passes p xs i d (p (get_or xs i d)) within all refl

-- what holds of an answer, by what is known of it
pub if_ok_by : {T E : Type 0} (P Q : T → Type 0) (r : Result T E) → ((x : T) → P x → Q x) → IfOk r P → IfOk r Q
if_ok_by P Q (Ok x) f known = f x known
if_ok_by P Q (Err e) f known = tt

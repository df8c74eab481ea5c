-- What stands in a text after one printing and a part of the next, and after some turns of a loop.
use Rattle.std.proofs.Common.{◌≡◌, ℕ, ◌+◌, ◌<◌, List, [], ◌∷◌, ◌++◌, length, map, get_or, take, refl, sym, ◌∙◌, ap, append_assoc}
use Rattle.std.specs.Prelude.{Result, Ok, Err, OnErr, OnOk}
use Rattle.std.proofs.lemmas.List.{append-nil, take_more}
use mathlib.Core.List.{IsPrefix}
use Rattle.st_text.specs.Words.{ended, line_text, text_of, spaced, line}

-- one text was added, and a beginning of what follows
pub begun_next : (old mid new a : List ℕ) → mid ≡ old ++ a → IsPrefix mid new → IsPrefix old new
begun_next old mid new a whole begun = (a ++ begun.0, sym (append_assoc old a begun.0) ∙ (ap (λ t. t ++ begun.0) (sym whole) ∙ begun.1))

-- the whole of two texts
pub both_added : (old mid new a b : List ℕ) → mid ≡ old ++ a → new ≡ mid ++ b → new ≡ old ++ (a ++ b)
both_added old mid new a b first second = second ∙ (ap (λ t. t ++ b) first ∙ append_assoc old a b)

-- what holds after an Err, or after an Ok
pub err_of : {T E P : Type 0} (r : Result T E) → P → OnErr r P
err_of (Ok x) p = tt
err_of (Err e) p = p

pub ok_by : {T E P Q : Type 0} (r : Result T E) → (P → Q) → OnOk r P → OnOk r Q
ok_by (Err e) f p = tt
ok_by (Ok x) f p = f p

-- a text of a list, by its elements in order
pub record IsByElement {X : Type 0} (F : List X → List ℕ) (f : X → List ℕ) : Type 0 where
  pub none : F [] ≡ []
  pub more : (x : X) (xs : List X) → F (x ∷ xs) ≡ f x ++ F xs

-- the text of one list behind another
pub by_append : {X : Type 0} (F : List X → List ℕ) (f : X → List ℕ) → IsByElement F f → (xs ys : List X) → F (xs ++ ys) ≡ F xs ++ F ys
by_append F f by [] ys = ap (λ t. t ++ F ys) (sym by.none)
by_append F f by (x ∷ xs) ys = by.more x (xs ++ ys) ∙ (ap (λ t. f x ++ t) (by_append F f by xs ys) ∙ (sym (append_assoc (f x) (F xs) (F ys)) ∙ ap (λ t. t ++ F ys) (sym (by.more x xs))))

by_one : {X : Type 0} (F : List X → List ℕ) (f : X → List ℕ) → IsByElement F f → (x : X) → F (x ∷ []) ≡ f x
by_one F f by x = by.more x [] ∙ (ap (λ t. f x ++ t) by.none ∙ append-nil (f x))

-- one more turn of a loop over the list
pub by_next : {X : Type 0} (F : List X → List ℕ) (f : X → List ℕ) → IsByElement F f → (xs : List X) (i : ℕ) (x d : X) (old mid new : List ℕ) → i < length xs → x ≡ get_or xs i d → mid ≡ old ++ F (take i xs) → new ≡ mid ++ f x → new ≡ old ++ F (take (i + 1) xs)
by_next F f by xs i x d old mid new within is before added =
    let step : F (take (i + 1) xs) ≡ F (take i xs) ++ f x = ap F (take_more xs i d within) ∙ (by_append F f by (take i xs) (get_or xs i d ∷ []) ∙ ap (λ t. F (take i xs) ++ t) (by_one F f by (get_or xs i d) ∙ ap f (sym is))) in
    both_added old mid new (F (take i xs)) (f x) before added ∙ ap (λ t. old ++ t) (sym step)

-- words, each behind a space, by these
pub words_by : {X : Type 0} (word : X → List ℕ) → IsByElement (λ xs. spaced (map word xs)) (λ x. 32 ∷ word x)
words_by word = record { none = refl; more = λ x xs. refl }

-- a line is the text of its words
rest_spaced : (w : List ℕ) (words : List (List ℕ)) → line_text (w ∷ words) ≡ w ++ spaced words
rest_spaced w [] = sym (append-nil w)
rest_spaced w (v ∷ words) = ap (λ t. w ++ 32 ∷ t) (rest_spaced v words)

pub line_bytes : (w : List ℕ) (words : List (List ℕ)) → text_of ((w ∷ words) ∷ []) ≡ line w words
line_bytes w words = append-nil (ended (line_text (w ∷ words))) ∙ ap (λ t. t ++ 10 ∷ []) (rest_spaced w words)

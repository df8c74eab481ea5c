-- Loops that pass over two lists side by side: what was found so far, with what is left to find, is what is found in all.
use Rattle.std.proofs.Common.{◌≡◌, ◌∙◌, ℕ, suc, ◌+◌, ◌<◌, true, false, Bool, List, [], ◌∷◌, ◌++◌, length, get_or, drop, refl, sym, ap, ap₂, arith, append_assoc}
use Rattle.std.specs.Prelude.{◌&&◌, not, if◌then◌else◌}
use Rattle.std.proofs.lemmas.List.{drop_more}
use Rattle.st_player.specs.Entries.{lost_from}

-- one more place
lost_at : (i n : ℕ) (before after : List Bool) → n ≡ i + 1 → i < length before → i < length after
    → lost_from i (drop i before) (drop i after) ≡ (if get_or before i false && not (get_or after i false) then i ∷ lost_from n (drop n before) (drop n after) else lost_from n (drop n before) (drop n after))
lost_at i n before after next low here =
    let e : suc i ≡ n = omega (arith, next) in
    ap₂ (λ xs ys. lost_from i xs ys) (drop_more before i false low ∙ ap (λ (k : ℕ). get_or before i false ∷ drop k before) (sym next)) (drop_more after i false here ∙ ap (λ (k : ℕ). get_or after i false ∷ drop k after) (sym next))
    ∙ ap (λ (k : ℕ). if get_or before i false && not (get_or after i false) then i ∷ lost_from k (drop n before) (drop n after) else lost_from k (drop n before) (drop n after)) e

pub lost_put : (numbers more whole : List ℕ) (i n : ℕ) (before after : List Bool) → n ≡ i + 1 → i < length before → i < length after → get_or before i false ≡ true → get_or after i false ≡ false → more ≡ numbers ++ i ∷ []
    → numbers ++ lost_from i (drop i before) (drop i after) ≡ whole → more ++ lost_from n (drop n before) (drop n after) ≡ whole
lost_put numbers more whole i n before after next low here held gone pushed was =
    ap (λ xs. xs ++ lost_from n (drop n before) (drop n after)) pushed
    ∙ (append_assoc numbers (i ∷ []) (lost_from n (drop n before) (drop n after))
    ∙ (ap (λ xs. numbers ++ xs) (sym (lost_at i n before after next low here ∙ rw (held, gone) refl)) ∙ was))

pub lost_skip : (numbers whole : List ℕ) (i n : ℕ) (before after : List Bool) → n ≡ i + 1 → i < length before → i < length after → (get_or before i false && not (get_or after i false)) ≡ false
    → numbers ++ lost_from i (drop i before) (drop i after) ≡ whole → numbers ++ lost_from n (drop n before) (drop n after) ≡ whole
lost_skip numbers whole i n before after next low here stays was = ap (λ xs. numbers ++ xs) (sym (lost_at i n before after next low here ∙ rw stays refl)) ∙ was

-- a promise that does not hold before is not lost, nor one that holds after
pub not_before : (b a : Bool) → b ≡ false → (b && not a) ≡ false
not_before b a is = rw is refl

pub still_after : (b a : Bool) → a ≡ true → (b && not a) ≡ false
still_after true a is = rw is refl
still_after false a is = refl

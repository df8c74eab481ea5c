-- Lists that grow by what a function gives of one number after another.
use Rattle.std.proofs.Common.{◌≡◌, ◌∙◌, sym, ap, ℕ, zero, suc, ◌+◌, List, [], ◌∷◌, ◌++◌, refl, append_assoc, add-one, add-zero, arith}
use Rattle.std.specs.Prelude.{map, flat_map}
use Rattle.std.specs.List.{range_with_len}
use Rattle.std.proofs.lemmas.List.{flat_map_more}
use Rattle.std.proofs.lemmas.List.FromFn.{map-range_with_len_more}
use Rattle.st_gen.specs.FatTrees.{numbers}

range_more : (a n : ℕ) → range_with_len a (suc n) ≡ range_with_len a n ++ (a + n) ∷ []
range_more a zero = rw add-zero refl
range_more a (suc n) =
    let last : a + 1 + n ≡ a + suc n = omega arith in
    ap (λ (ns : List ℕ). a ∷ ns) (range_more (a + 1) n ∙ ap (λ (k : ℕ). range_with_len (a + 1) n ++ k ∷ []) last)

pub numbers_more : (n : ℕ) → numbers (n + 1) ≡ numbers n ++ n ∷ []
numbers_more n =
    let last : 0 + n ≡ n = omega arith in
    ap numbers (add-one n) ∙ range_more 0 n ∙ ap (λ (k : ℕ). numbers n ++ k ∷ []) last

-- one item more
pub mapped : {X : Type 0} (f : ℕ → X) (start old new : List X) (x : X) (n : ℕ) → old ≡ start ++ map f (numbers n) → new ≡ old ++ x ∷ [] → x ≡ f n → new ≡ start ++ map f (numbers (n + 1))
mapped {X} f start old new x n so push is =
    let more : map f (numbers (n + 1)) ≡ map f (numbers n) ++ f n ∷ [] = map-range_with_len_more f 0 n n (omega arith) in
    push ∙ ap (λ (ys : List X). ys ++ x ∷ []) so ∙ ap (λ (y : X). (start ++ map f (numbers n)) ++ y ∷ []) is
    ∙ append_assoc start (map f (numbers n)) (f n ∷ []) ∙ ap (λ (ys : List X). start ++ ys) (sym more)

-- one list more
pub joined : {X : Type 0} (f : ℕ → List X) (start old new : List X) (n : ℕ) → old ≡ start ++ flat_map f (numbers n) → new ≡ old ++ f n → new ≡ start ++ flat_map f (numbers (n + 1))
joined {X} f start old new n so push =
    push ∙ ap (λ (ys : List X). ys ++ f n) so ∙ flat_map_more f start (numbers n) n
    ∙ ap (λ (ns : List ℕ). start ++ flat_map f ns) (sym (numbers_more n))

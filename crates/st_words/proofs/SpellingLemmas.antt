-- The grammar's function and its rules agree.
use Rattle.std.proofs.Common.{◌≡◌, ◌∙◌, ◌++◌, ◌==◌, ℕ, Bool, true, false, cond, List, [], ◌∷◌, map, take, drop, ap, sym, refl, subst, arith, codes, true≢false, Option, Some, None}
use Rattle.std.specs.List.{list_any, before_first, after_first}
use Rattle.std.specs.Str.{bytes_eq}
use Rattle.std.proofs.lemmas.Bool.{eqb-true}
use Rattle.std.proofs.lemmas.Grind.{common_steps}
use Rattle.st_words.specs.Grammar.{Text, Part, option, further, option_names, is_among, is_option, begins_with_dash, name_in, value_in, and_then, parts_from, parts_of}
use Rattle.st_words.specs.Spelling.{Spells, no_words, option_in_one, option_in_two, one_further, words_behind, flag, flag_with}
use Rattle.st_words.specs.Laws.{ReadsSpellings, ReadsSpellingsAlone}
use Rattle.st_words.proofs.Rules.{same_text}
use Rattle.st_words.proofs.Names.{by_name}
use Rattle.st_words.proofs.Once.{among_of}

-- ---- what is spelled is read

one_read : (name value : Text) (words : List Text) → is_among name option_names ≡ true → parts_of (flag_with name value ∷ words) ≡ and_then (option name value) (parts_of words)
one_read name value words among = by_name (λ n. parts_of (flag_with n value ∷ words) ≡ and_then (option n value) (parts_of words)) name among refl refl refl refl

two_read : (name value : Text) (words : List Text) → is_among name option_names ≡ true → begins_with_dash value ≡ false → parts_of (flag name ∷ value ∷ words) ≡ and_then (option name value) (parts_of words)
two_read name value words among dash =
    by_name (λ n. parts_of (flag n ∷ value ∷ words) ≡ and_then (option n value) (parts_of words)) name among (rw dash refl) (rw dash refl) (rw dash refl) (rw dash refl)

further_read : (word : Text) (words : List Text) → begins_with_dash word ≡ false → parts_of (word ∷ words) ≡ and_then (further word) (parts_of words)
further_read [] words dash = refl
further_read (b ∷ rest) words dash = rw dash refl

pub spelled_read : ReadsSpellings
spelled_read words parts no_words = refl
spelled_read words parts (option_in_one name value rest more among spells) = one_read name value rest among ∙ ap (and_then (option name value)) (spelled_read rest more spells)
spelled_read words parts (option_in_two name value rest more among dash spells) = two_read name value rest among dash ∙ ap (and_then (option name value)) (spelled_read rest more spells)
spelled_read words parts (one_further word rest more dash spells) = further_read word rest dash ∙ ap (and_then (further word)) (spelled_read rest more spells)
spelled_read words parts (words_behind rest) = refl

-- ---- a word that names an option is its name and value

abbrev is_sign : ℕ → Bool
is_sign b = b == 61

no_option : (b : Bool) (word : Text) → bytes_eq (take 2 word) (codes "--") ≡ b → is_option option_names word ≡ true → b ≡ true
no_option true word e opt = refl
no_option false word e opt = let bad : false ≡ true = rw e at opt in absurd (true≢false (sym bad))

two_dashes : (word : Text) → bytes_eq (take 2 word) (codes "--") ≡ true → codes "--" ++ drop 2 word ≡ word
two_dashes [] e = absurd (true≢false (sym e))
two_dashes (a ∷ []) e = let same : a ∷ [] ≡ codes "--" = same_text (a ∷ []) (codes "--") e in absurd (cc)
two_dashes (a ∷ b ∷ rest) e = ap (λ (h : Text). h ++ rest) (sym (same_text (a ∷ b ∷ []) (codes "--") e))

dashes_of : (word : Text) → is_option option_names word ≡ true → codes "--" ++ drop 2 word ≡ word
dashes_of word opt = two_dashes word (no_option (bytes_eq (take 2 word) (codes "--")) word refl opt)

cut_first : (b : Bool) (x : ℕ) (xs : Text) → is_sign x ≡ b → (list_any is_sign xs ≡ true → before_first is_sign xs ++ 61 ∷ after_first is_sign xs ≡ xs)
    → list_any is_sign (x ∷ xs) ≡ true → before_first is_sign (x ∷ xs) ++ 61 ∷ after_first is_sign (x ∷ xs) ≡ x ∷ xs
cut_first true x xs e later some = rw e (ap (λ (n : ℕ). n ∷ xs) (sym (eqb-true x 61 e)))
cut_first false x xs e later some = grind (arith, common_steps)

cut_at : (xs : Text) → list_any is_sign xs ≡ true → before_first is_sign xs ++ 61 ∷ after_first is_sign xs ≡ xs
cut_at [] some = absurd (true≢false (sym some))
cut_at (x ∷ xs) some = cut_first (is_sign x) x xs refl (cut_at xs) some

whole_first : (b : Bool) (x : ℕ) (xs : Text) → is_sign x ≡ b → (list_any is_sign xs ≡ false → before_first is_sign xs ≡ xs)
    → list_any is_sign (x ∷ xs) ≡ false → before_first is_sign (x ∷ xs) ≡ x ∷ xs
whole_first true x xs e later none = absurd (true≢false (rw e at none))
whole_first false x xs e later none = grind (arith, common_steps)

whole_at : (xs : Text) → list_any is_sign xs ≡ false → before_first is_sign xs ≡ xs
whole_at [] none = refl
whole_at (x ∷ xs) none = whole_first (is_sign x) x xs refl (whole_at xs) none

some_by : (b : Bool) (a value : Text) → cond b (Some a) None ≡ Some value → (b ≡ true) × (a ≡ value)
some_by true a value e = (refl, cc)
some_by false a value e = absurd (cc)

none_by : (b : Bool) (a : Text) → cond b (Some a) None ≡ None → b ≡ false
none_by true a e = absurd (cc)
none_by false a e = refl

flag_with_is : (word value : Text) → is_option option_names word ≡ true → value_in word ≡ Some value → flag_with (name_in word) value ≡ word
flag_with_is word value opt val =
    let found = some_by (list_any is_sign (drop 2 word)) (after_first is_sign (drop 2 word)) value val in
    ap (λ (v : Text). flag_with (name_in word) v) (sym found.1) ∙ ap (λ (t : Text). codes "--" ++ t) (cut_at (drop 2 word) found.0) ∙ dashes_of word opt

flag_is : (word : Text) → is_option option_names word ≡ true → value_in word ≡ None → flag (name_in word) ≡ word
flag_is word opt val =
    ap flag (whole_at (drop 2 word) (none_by (list_any is_sign (drop 2 word)) (after_first is_sign (drop 2 word)) val)) ∙ dashes_of word opt

-- ---- only what is spelled is read

-- what holds of this part before the others holds of what it comes to
by_rest : (P : List Part → Type 0) (part : Part) (o : Option (List Part)) (parts : List Part) → ((more : List Part) → o ≡ Some more → P (part ∷ more)) → and_then part o ≡ Some parts → P parts
by_rest P part None parts holds e = absurd (cc)
by_rest P part (Some more) parts holds e = let same : part ∷ more ≡ parts = cc in subst P same (holds more refl)

pub record IsSpelled (words : List Text) : Type 0 where
  pub between : (parts : List Part) → parts_from None words ≡ Some parts → Spells words parts
  pub waits : (name : Text) (parts : List Part) → is_among name option_names ≡ true → parts_from (Some name) words ≡ Some parts → Spells (flag name ∷ words) parts

module _ (word : Text) (rest : List Text) (later : IsSpelled rest) where
  behind_spelled : (parts : List Part) → bytes_eq word (codes "--") ≡ true → Some (map further rest) ≡ Some parts → Spells (word ∷ rest) parts
  behind_spelled parts two e =
      let same : map further rest ≡ parts = cc in
      subst (λ (ps : List Part). Spells (word ∷ rest) ps) same
      (subst (λ (w : Text). Spells (w ∷ rest) (map further rest)) (sym (same_text word (codes "--") two)) (words_behind rest))

  value_spelled : (value : Option Text) (parts : List Part) → value_in word ≡ value → bytes_eq word (codes "--") ≡ false → is_option option_names word ≡ true
      → parts_from None (word ∷ rest) ≡ Some parts → Spells (word ∷ rest) parts
  value_spelled None parts val two opt e =
      let read : parts_from (Some (name_in word)) rest ≡ Some parts = rw (two, opt, val) at e in
      subst (λ (w : Text). Spells (w ∷ rest) parts) (flag_is word opt val)
      (later.waits (name_in word) parts (among_of (bytes_eq (take 2 word) (codes "--")) word refl opt) read)
  value_spelled (Some value) parts val two opt e =
      let read : and_then (option (name_in word) value) (parts_from None rest) ≡ Some parts = rw (two, opt, val) at e in
      by_rest (λ ps. Spells (word ∷ rest) ps) (option (name_in word) value) (parts_from None rest) parts
      (λ more is. subst (λ (w : Text). Spells (w ∷ rest) (option (name_in word) value ∷ more)) (flag_with_is word value opt val)
      (option_in_one (name_in word) value rest more (among_of (bytes_eq (take 2 word) (codes "--")) word refl opt) (later.between more is))) read

  further_spelled : (dash : Bool) (parts : List Part) → begins_with_dash word ≡ dash → bytes_eq word (codes "--") ≡ false → is_option option_names word ≡ false
      → parts_from None (word ∷ rest) ≡ Some parts → Spells (word ∷ rest) parts
  further_spelled true parts dash two opt e = let bad : None ≡ Some parts = rw (two, opt, dash) at e in absurd (cc)
  further_spelled false parts dash two opt e =
      let read : and_then (further word) (parts_from None rest) ≡ Some parts = rw (two, opt, dash) at e in
      by_rest (λ ps. Spells (word ∷ rest) ps) (further word) (parts_from None rest) parts (λ more is. one_further word rest more dash (later.between more is)) read

  between_spelled : (two opt : Bool) (parts : List Part) → bytes_eq word (codes "--") ≡ two → is_option option_names word ≡ opt → parts_from None (word ∷ rest) ≡ Some parts → Spells (word ∷ rest) parts
  between_spelled true opt parts two is e = behind_spelled parts two (rw two at e)
  between_spelled false true parts two is e = value_spelled (value_in word) parts refl two is e
  between_spelled false false parts two is e = further_spelled (begins_with_dash word) parts refl two is e

  waits_spelled : (dash : Bool) (name : Text) (parts : List Part) → begins_with_dash word ≡ dash → is_among name option_names ≡ true → parts_from (Some name) (word ∷ rest) ≡ Some parts
      → Spells (flag name ∷ word ∷ rest) parts
  waits_spelled true name parts dash among e = let bad : None ≡ Some parts = rw dash at e in absurd (cc)
  waits_spelled false name parts dash among e =
      let read : and_then (option name word) (parts_from None rest) ≡ Some parts = rw dash at e in
      by_rest (λ ps. Spells (flag name ∷ word ∷ rest) ps) (option name word) (parts_from None rest) parts
      (λ more is. option_in_two name word rest more among dash (later.between more is)) read

nothing_spelled : (parts : List Part) → parts_from None [] ≡ Some parts → Spells [] parts
nothing_spelled parts e = let same : [] ≡ parts = cc in subst (λ (ps : List Part). Spells [] ps) same no_words

no_value_spelled : (name : Text) (parts : List Part) → parts_from (Some name) [] ≡ Some parts → Spells (flag name ∷ []) parts
no_value_spelled name parts e = absurd (cc)

is_spelled : (words : List Text) → IsSpelled words
is_spelled [] = record { between = nothing_spelled; waits = λ name parts among e. no_value_spelled name parts e }
is_spelled (word ∷ rest) = record {
  between = λ parts e. between_spelled word rest (is_spelled rest) (bytes_eq word (codes "--")) (is_option option_names word) parts refl refl e;
  waits = λ name parts among e. waits_spelled word rest (is_spelled rest) (begins_with_dash word) name parts refl among e;
}

pub read_spelled : ReadsSpellingsAlone
read_spelled words parts e = (is_spelled words).between parts e

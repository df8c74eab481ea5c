-- The rows of a line are read as what they were printed for.
use Rattle.std.proofs.Common.{◌≡◌, ℕ, List, [], ◌∷◌, ◌++◌, map, ap, sym, ◌∙◌, subst, refl}
use Rattle.std.specs.Prelude.{true, not, ◌&&◌, Option, Ok}
use Rattle.std.specs.List.{AllByRecursion}
use Rattle.std.proofs.lemmas.List.{append-nil, append_assoc}
use Rattle.st_text.specs.Words.{IsWord}
use Rattle.st_net.proofs.Tests.{both}
use Rattle.st_net.specs.declared.entity.Entity.{Entity}
use Rattle.st_net.specs.declared.entity.Row.{Row}
use Rattle.st_net.specs.Entities.{is_same_entity, is_same_var, place_of}
use Rattle.st_net.specs.Ranges.{is_in_range, is_free_of, are_apart}
use Rattle.st_token.specs.Variables.{rows_in, values_in}
use Rattle.st_token.specs.Words.{value_word, assignment_word}
use Rattle.st_token.specs.ReadingBack.{IsPrintable}
use Rattle.st_token.proofs.RowLemmas.{swapped, same_flipped, free_last}
use Rattle.st_token.proofs.PrintedTokens.{row_of, ranged, assignment_is_word, value_is_word, new_assignment_again, new_value_again}

-- rows on other variables
abbrev pub IsFree : List Row → Row → Type 0
IsFree set row = is_free_of row.entity row.var set ≡ true

others : (set : List Row) (row : Row) (rows : List Row) → is_free_of row.entity row.var rows ≡ true → AllByRecursion (IsFree set) rows → AllByRecursion (IsFree (set ++ row ∷ [])) rows
others set row [] apart free = tt
others set row (next ∷ rows) apart free =
    let parts = both (not (is_same_entity next.entity row.entity && is_same_var next.var row.var)) (is_free_of row.entity row.var rows) apart in
    let turned : not (is_same_entity row.entity next.entity && is_same_var row.var next.var) ≡ true = rw (same_flipped row.entity next.entity, swapped (place_of row.var) (place_of next.var)) parts.0 in
    (free_last next.entity next.var set row free.0 turned, others set row rows parts.1 free.1)

pub free_of_none : (rows : List Row) → AllByRecursion (IsFree []) rows
free_of_none [] = tt
free_of_none (row ∷ rows) = (refl, free_of_none rows)

-- assignments, by the names of entities
module _ (find : List ℕ → Option Entity) (name : Entity → List ℕ) where
  abbrev pub row_word : Row → List ℕ
  row_word row = assignment_word (name row.entity) row.var row.value

  pub rows_again : (set rows : List Row) → AllByRecursion (IsPrintable find name) rows → are_apart rows ≡ true → AllByRecursion (IsFree set) rows → rows_in find set (map row_word rows) ≡ Ok (set ++ rows)
  unfolding rows_in
  rows_again set [] fits apart free = ap Ok (sym (append-nil set))
  rows_again set (row ∷ rows) fits apart free =
      let parts = both (is_free_of row.entity row.var rows) (are_apart rows) apart in
      rw (new_assignment_again find set (name row.entity) row.entity row.var row.value fits.0.named.spelled fits.0.named.found fits.0.range free.0)
      (rows_again (set ++ row ∷ []) rows fits.1 parts.1 (others set row rows parts.0 free.1) ∙ ap Ok (append_assoc set (row ∷ []) rows))

  pub rows_words : (rows : List Row) → AllByRecursion (IsPrintable find name) rows → AllByRecursion IsWord (map row_word rows)
  rows_words [] fits = tt
  rows_words (row ∷ rows) fits = (assignment_is_word (name row.entity) row.var row.value fits.0.named.spelled (ranged row.entity row.var row.value fits.0.range).1, rows_words rows fits.1)

-- the values of an entity
abbrev pub IsOwnValue : Entity → Row → Type 0
IsOwnValue e row = (row.entity ≡ e) × (is_in_range row.entity row.var row.value ≡ true)

abbrev pub row_value : Row → List ℕ
row_value row = value_word row.var row.value

pub values_again : (e : Entity) (set rows : List Row) → AllByRecursion (IsOwnValue e) rows → are_apart rows ≡ true → AllByRecursion (IsFree set) rows → values_in e set (map row_value rows) ≡ Ok (set ++ rows)
unfolding values_in
values_again e set [] own apart free = ap Ok (sym (append-nil set))
values_again e set (row ∷ rows) own apart free =
    let parts = both (is_free_of row.entity row.var rows) (are_apart rows) apart in
    let range : is_in_range e row.var row.value ≡ true = subst (λ (x : Entity). is_in_range x row.var row.value ≡ true) own.0.0 own.0.1 in
    let fresh : is_free_of e row.var set ≡ true = subst (λ (x : Entity). is_free_of x row.var set ≡ true) own.0.0 free.0 in
    let same : row_of e row.var row.value ≡ row = ap (λ (x : Entity). row_of x row.var row.value) (sym own.0.0) in
    rw (new_value_again e set row.var row.value range fresh, same)
    (values_again e (set ++ row ∷ []) rows own.1 parts.1 (others set row rows parts.0 free.1) ∙ ap Ok (append_assoc set (row ∷ []) rows))

pub values_words : (e : Entity) (rows : List Row) → AllByRecursion (IsOwnValue e) rows → AllByRecursion IsWord (map row_value rows)
values_words e [] own = tt
values_words e (row ∷ rows) own = (value_is_word row.var row.value (ranged row.entity row.var row.value own.0.1).1, values_words e rows own.1)

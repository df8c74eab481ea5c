-- The loop over the bytes of a line, which cuts its tokens.
use Rattle.std.proofs.Common.{◌≡◌, ℕ, ◌+◌, ◌-◌, ◌<◌, ◌≤◌, List, [], ◌∷◌, ◌++◌, true, false, length, map, filter, get_or, take, drop, slice_range, All, sym, ◌∙◌, ap, subst, refl, arith}
use Rattle.std.specs.List.{slice_split}
use Rattle.std.proofs.lemmas.List.{append_assoc, append-nil, map_push, take_rest, drop_all}
use Rattle.std.proofs.lemmas.List.Splits.{slice_split_at, slice_split_none}
use Rattle.std.proofs.lemmas.List.Elements.{All-push, All-nil}
use Rattle.st_text.specs.declared.token_places.Token.{Token}
use Rattle.st_text.specs.Tokens.{is_blank, is_filled, tokens_of, filled_places, token_in, IsTokenOf, AreTokensOf}
use Rattle.st_text.proofs.SliceLemmas.{split_at, slice_more, length-slice}

-- no byte of these is a blank
abbrev IsUnbroken : List ℕ → Type 0
IsUnbroken bytes = All (λ b. is_blank b ≡ false) bytes

-- what is left of a line from a place on, parted at its blanks
abbrev parts_from : List ℕ → ℕ → List (List ℕ)
parts_from line start = slice_split is_blank (drop start line)

-- the tokens that are cut, where a part begun at start goes on at a place
pub record TokensSoFar (line : List ℕ) (start at : ℕ) (tokens : List Token) : Type 0 where
  pub begun : start ≤ at
  pub unbroken : All (λ b. is_blank b ≡ false) (slice_range line start at)
  pub places : tokens ++ filled_places start (slice_split is_blank (drop start line))
      ≡ filled_places 0 (slice_split is_blank line)
  pub texts : map (token_in line) tokens ++ filter is_filled (slice_split is_blank (drop start line))
      ≡ tokens_of line
  pub within : All (IsTokenOf line) tokens

pub tokens_go_on : (line : List ℕ) (start at : ℕ) (tokens : List Token) → TokensSoFar line start at tokens
    → at < length line → is_blank (get_or line at 0) ≡ false → TokensSoFar line start (at + 1) tokens
tokens_go_on line start at tokens so l e = record {
  begun = omega (arith, so.begun);
  unbroken = subst (λ (s : List ℕ). IsUnbroken s) (sym (slice_more line start at so.begun l))
      (All-push (λ b. is_blank b ≡ false) _ _ so.unbroken e);
  places = so.places;
  texts = so.texts;
  within = so.within;
}

-- after a blank nothing of the next part is read yet
nothing_yet : (line : List ℕ) (n : ℕ) → IsUnbroken (slice_range line n n)
nothing_yet line n = subst (λ (k : ℕ). IsUnbroken (take k (drop n line)))
    (let zero : 0 ≡ n - n = omega arith in zero) (All-nil (λ b. is_blank b ≡ false))

filled : (s : List ℕ) → 0 < length s → is_filled s ≡ true
filled [] some = absurd (omega arith)
filled (b ∷ s) some = refl

unfilled : (s : List ℕ) → length s ≡ 0 → is_filled s ≡ false
unfilled [] none = refl
unfilled (b ∷ s) none = absurd (omega arith)

-- the places and the texts of a filled part and the rest
places_filled : (tokens : List Token) (s : List ℕ) (rest : List (List ℕ)) (start at : ℕ) → 0 < length s → length s + start ≡ at
    → tokens ++ record { start = start; end = at } ∷ [] ++ filled_places (at + 1) rest ≡ tokens ++ filled_places start (s ∷ rest)
places_filled tokens s rest start at some len =
    let end : start + length s ≡ at = omega arith in
    append_assoc tokens (record { start = start; end = at } ∷ []) (filled_places (at + 1) rest) ∙ rw (filled s some, end) refl

texts_filled : (s : List ℕ) (rest : List (List ℕ)) → 0 < length s → s ∷ filter is_filled rest ≡ filter is_filled (s ∷ rest)
texts_filled s rest some = rw (filled s some) refl

-- the same of a part that is not filled
places_unfilled : (s : List ℕ) (rest : List (List ℕ)) (start at : ℕ) → length s ≡ 0 → start ≡ at
    → filled_places (at + 1) rest ≡ filled_places start (s ∷ rest)
places_unfilled s rest start at none here =
    let next : start + length s + 1 ≡ at + 1 = omega arith in
    rw (unfilled s none, next) refl

texts_unfilled : (s : List ℕ) (rest : List (List ℕ)) → length s ≡ 0 → filter is_filled rest ≡ filter is_filled (s ∷ rest)
texts_unfilled s rest none = rw (unfilled s none) refl

-- a blank parts what is left
cuts_at : (line : List ℕ) (start at : ℕ) → start ≤ at → at < length line → IsUnbroken (slice_range line start at)
    → is_blank (get_or line at 0) ≡ true → parts_from line start ≡ slice_range line start at ∷ parts_from line (at + 1)
cuts_at line start at o l unbroken e =
    ap (slice_split is_blank) (split_at line start at o l) ∙ slice_split_at is_blank _ _ _ unbroken e

pub tokens_break_filled : (line : List ℕ) (start at : ℕ) (tokens : List Token) → TokensSoFar line start at tokens
    → at < length line → is_blank (get_or line at 0) ≡ true → start < at
    → TokensSoFar line (at + 1) (at + 1) (tokens ++ record { start = start; end = at } ∷ [])
tokens_break_filled line start at tokens so l e f =
    let part : List ℕ = slice_range line start at in
    let rest : List (List ℕ) = parts_from line (at + 1) in
    let len : length part + start ≡ at = length-slice line start at so.begun (omega arith) in
    let some : 0 < length part = omega arith in
    let cuts : parts_from line start ≡ part ∷ rest = cuts_at line start at so.begun l so.unbroken e in
    record {
      begun = omega arith;
      unbroken = nothing_yet line (at + 1);
      places = places_filled tokens part rest start at some len
          ∙ (ap (λ (ps : List (List ℕ)). tokens ++ filled_places start ps) (sym cuts) ∙ so.places);
      texts = rw (map_push (token_in line) tokens (record { start = start; end = at }), append_assoc)
          (ap (λ (ps : List (List ℕ)). map (token_in line) tokens ++ ps) (texts_filled part rest some)
          ∙ (ap (λ (ps : List (List ℕ)). map (token_in line) tokens ++ filter is_filled ps) (sym cuts) ∙ so.texts));
      within = All-push (IsTokenOf line) _ _ so.within (record { filled = f; within = omega arith });
    }

pub tokens_break_unfilled : (line : List ℕ) (start at : ℕ) (tokens : List Token) → TokensSoFar line start at tokens
    → at < length line → is_blank (get_or line at 0) ≡ true → at ≤ start → TokensSoFar line (at + 1) (at + 1) tokens
tokens_break_unfilled line start at tokens so l e f =
    let part : List ℕ = slice_range line start at in
    let rest : List (List ℕ) = parts_from line (at + 1) in
    let len : length part + start ≡ at = length-slice line start at so.begun (omega arith) in
    let none : length part ≡ 0 = omega (arith, so.begun) in
    let cuts : parts_from line start ≡ part ∷ rest = cuts_at line start at so.begun l so.unbroken e in
    record {
      begun = omega arith;
      unbroken = nothing_yet line (at + 1);
      places = ap (λ (ps : List Token). tokens ++ ps) (places_unfilled part rest start at none (omega arith))
          ∙ (ap (λ (ps : List (List ℕ)). tokens ++ filled_places start ps) (sym cuts) ∙ so.places);
      texts = ap (λ (ps : List (List ℕ)). map (token_in line) tokens ++ ps) (texts_unfilled part rest none)
          ∙ (ap (λ (ps : List (List ℕ)). map (token_in line) tokens ++ filter is_filled ps) (sym cuts) ∙ so.texts);
      within = so.within;
    }

pub tokens_end : (line : List ℕ) (start : ℕ) (tokens : List Token) → TokensSoFar line start (length line) tokens
    → length line ≤ start → AreTokensOf line tokens
tokens_end line start tokens so l =
    let none : drop start line ≡ [] = drop_all start line l in
    record {
      places = sym (append-nil tokens)
          ∙ (ap (λ (r : List ℕ). tokens ++ filled_places start (slice_split is_blank r)) (sym none) ∙ so.places);
      texts = sym (append-nil (map (token_in line) tokens))
          ∙ (ap (λ (r : List ℕ). map (token_in line) tokens ++ filter is_filled (slice_split is_blank r)) (sym none) ∙ so.texts);
      within = so.within;
    }

pub tokens_last : (line : List ℕ) (start : ℕ) (tokens : List Token) → TokensSoFar line start (length line) tokens
    → start < length line → AreTokensOf line (tokens ++ record { start = start; end = length line } ∷ [])
tokens_last line start tokens so l =
    let part : List ℕ = slice_range line start (length line) in
    let all : part ≡ drop start line = take_rest line start in
    let len : length part + start ≡ length line = length-slice line start (length line) so.begun (omega arith) in
    let some : 0 < length part = omega arith in
    let cuts : parts_from line start ≡ part ∷ [] =
    ap (slice_split is_blank) (sym all) ∙ slice_split_none is_blank part so.unbroken in
    record {
      places = sym (append-nil (tokens ++ record { start = start; end = length line } ∷ []))
          ∙ (places_filled tokens part [] start (length line) some len
          ∙ (ap (λ (ps : List (List ℕ)). tokens ++ filled_places start ps) (sym cuts) ∙ so.places));
      texts = rw (map_push (token_in line) tokens (record { start = start; end = length line }))
          (ap (λ (ps : List (List ℕ)). map (token_in line) tokens ++ ps) (texts_filled part [] some)
          ∙ (ap (λ (ps : List (List ℕ)). map (token_in line) tokens ++ filter is_filled ps) (sym cuts) ∙ so.texts));
      within = All-push (IsTokenOf line) _ _ so.within (record { filled = l; within = omega arith });
    }

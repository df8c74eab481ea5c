-- The loop over the bytes of a text, which cuts its lines.
use Rattle.std.proofs.Common.{◌≡◌, ℕ, ◌+◌, ◌-◌, ◌<◌, ◌≤◌, List, [], ◌∷◌, ◌++◌, Bool, true, false, length, map, get_or, take, drop, slice_range, All, sym, ◌∙◌, ap, subst, refl, arith, lit≤, inl, inr, nat_eq, eqb-true}
use Rattle.std.specs.List.{AllByRecursion, onto_first}
use Rattle.std.proofs.lemmas.List.{append_assoc, append-nil, map_push, take_rest, drop_all, length-map}
use Rattle.std.proofs.lemmas.Bool.{cases_lt}
use Rattle.std.proofs.lemmas.List.Elements.{All-push, All-nil, recursion_from_All}
use Rattle.st_text.specs.declared.line_places.Line.{Line}
use Rattle.st_text.specs.Lines.{raw_lines, lines_of, places_from, line_in, without_cr, is_line_feed, IsLineWithin, CutsLine, AreLinesOf}
use Rattle.st_text.proofs.SliceLemmas.{split_at, slice_more, length-slice}

-- no byte of these is an LF
abbrev IsUnbroken : List ℕ → Type 0
IsUnbroken bytes = All (λ b. is_line_feed b ≡ false) bytes

-- the line that these bytes make, up to a break
pub raw_lines_at : (xs ys : List ℕ) (b : ℕ) → AllByRecursion (λ x. is_line_feed x ≡ false) xs
    → is_line_feed b ≡ true → raw_lines (xs ++ b ∷ ys) ≡ xs ∷ raw_lines ys
raw_lines_at [] ys b all e = rw e refl
raw_lines_at (x ∷ xs) ys b all e = rw (all.0, raw_lines_at xs ys b all.1 e) refl

-- bytes with no break are one line
pub raw_lines_none : (x : ℕ) (xs : List ℕ) → AllByRecursion (λ x. is_line_feed x ≡ false) (x ∷ xs)
    → raw_lines (x ∷ xs) ≡ (x ∷ xs) ∷ []
raw_lines_none x [] all = rw all.0 refl
raw_lines_none x (y ∷ xs) all = rw (all.0, raw_lines_none y xs all.1) refl

-- the lines that are cut, where a line begun at start goes on at a place
pub record LinesSoFar (bytes : List ℕ) (start at : ℕ) (lines : List Line) : Type 0 where
  pub begun : start ≤ at
  pub unbroken : IsUnbroken (slice_range bytes start at)
  pub places : lines ++ places_from start (raw_lines (drop start bytes))
      ≡ places_from 0 (raw_lines bytes)
  pub texts : map (line_in bytes) lines ++ map without_cr (raw_lines (drop start bytes))
      ≡ lines_of bytes
  pub within : All (IsLineWithin bytes) lines

pub lines_begin : (bytes : List ℕ) → LinesSoFar bytes 0 0 []
lines_begin bytes = record {
  begun = lit≤ tt;
  unbroken = All-nil (λ b. is_line_feed b ≡ false);
  places = refl;
  texts = refl;
  within = All-nil (IsLineWithin bytes);
}

pub lines_go_on : (bytes : List ℕ) (start at : ℕ) (lines : List Line) → LinesSoFar bytes start at lines
    → at < length bytes → is_line_feed (get_or bytes at 0) ≡ false → LinesSoFar bytes start (at + 1) lines
lines_go_on bytes start at lines so l e = record {
  begun = omega (arith, so.begun);
  unbroken = subst (λ (s : List ℕ). IsUnbroken s) (sym (slice_more bytes start at so.begun l))
      (All-push (λ b. is_line_feed b ≡ false) _ _ so.unbroken e);
  places = so.places;
  texts = so.texts;
  within = so.within;
}

line_is : (line : Line) (start end : ℕ) → line.start ≡ start → line.end ≡ end
    → line ≡ record { start = start; end = end }
line_is line start end s e = rw (← s, ← e) refl

-- the places of one line and the rest
places_step : (lines : List Line) (line : Line) (s : List ℕ) (rest : List (List ℕ)) (start at : ℕ)
    → line.start ≡ start → line.end ≡ start + length (without_cr s) → length s + start ≡ at
    → lines ++ line ∷ [] ++ places_from (at + 1) rest ≡ lines ++ places_from start (s ∷ rest)
places_step lines line s rest start at e f g =
    let next : start + length s + 1 ≡ at + 1 = omega arith in
    let same : line ≡ record { start = start; end = start + length (without_cr s) } =
    line_is line _ _ e f in
    append_assoc lines (line ∷ []) (places_from (at + 1) rest) ∙ rw (same, next) refl

-- after a cut nothing of the next line is read yet
nothing_yet : (bytes : List ℕ) (n : ℕ) → IsUnbroken (slice_range bytes n n)
nothing_yet bytes n = subst (λ (k : ℕ). IsUnbroken (take k (drop n bytes)))
    (let zero : 0 ≡ n - n = omega arith in zero) (All-nil (λ b. is_line_feed b ≡ false))

pub lines_break : (bytes : List ℕ) (start at : ℕ) (lines : List Line) (line : Line)
    → LinesSoFar bytes start at lines → at < length bytes → is_line_feed (get_or bytes at 0) ≡ true
    → CutsLine bytes start at line → LinesSoFar bytes (at + 1) (at + 1) (lines ++ line ∷ [])
lines_break bytes start at lines line so l e cut =
    let part : List ℕ = slice_range bytes start at in
    let rest : List (List ℕ) = raw_lines (drop (at + 1) bytes) in
    let cuts : raw_lines (drop start bytes) ≡ part ∷ rest =
    ap raw_lines (split_at bytes start at so.begun l)
    ∙ raw_lines_at _ _ _ (recursion_from_All (λ b. is_line_feed b ≡ false) _ so.unbroken) e in
    record {
      begun = omega arith;
      unbroken = nothing_yet bytes (at + 1);
      places = places_step lines line part rest start at cut.start_is cut.end_is
          (length-slice bytes start at so.begun (omega arith))
          ∙ (ap (λ (ls : List (List ℕ)). lines ++ places_from start ls) (sym cuts) ∙ so.places);
      texts = rw (map_push (line_in bytes) lines line, cut.text, append_assoc)
          (ap (λ (ls : List (List ℕ)). map (line_in bytes) lines ++ map without_cr ls) (sym cuts) ∙ so.texts);
      within = All-push (IsLineWithin bytes) _ _ so.within
          (omega (arith, cut.start_is, cut.end_is), cut.within);
    }

-- there are no more lines than bytes
onto_first_few : (b : ℕ) (ls : List (List ℕ)) (n : ℕ) → length ls ≤ n → length (onto_first b ls) ≤ n + 1
onto_first_few b [] n l = omega arith
onto_first_few b (l ∷ ls) n h = omega arith

raw_lines_few_step : (b : ℕ) (bs : List ℕ) (t : Bool) → is_line_feed b ≡ t → length (raw_lines bs) ≤ length bs
    → length (raw_lines (b ∷ bs)) ≤ length (b ∷ bs)
raw_lines_few_step b bs true e h = rw e (omega arith)
raw_lines_few_step b bs false e h = rw e (let k = onto_first_few b (raw_lines bs) (length bs) h in omega arith)

raw_lines_few : (bs : List ℕ) → length (raw_lines bs) ≤ length bs
raw_lines_few [] = omega arith
raw_lines_few (b ∷ bs) = raw_lines_few_step b bs (is_line_feed b) refl (raw_lines_few bs)

few_lines : (bytes : List ℕ) (lines : List Line) → map (line_in bytes) lines ≡ lines_of bytes
    → length lines ≤ length bytes
few_lines bytes lines e =
    omega (arith, length-map lines (line_in bytes), length-map (raw_lines bytes) without_cr, ap length e, raw_lines_few bytes)

pub lines_end : (bytes : List ℕ) (start : ℕ) (lines : List Line)
    → LinesSoFar bytes start (length bytes) lines → length bytes ≤ start → AreLinesOf bytes lines
lines_end bytes start lines so l =
    let none : drop start bytes ≡ [] = drop_all start bytes l in
    let texts : map (line_in bytes) lines ≡ lines_of bytes =
    sym (append-nil (map (line_in bytes) lines))
    ∙ (ap (λ (r : List ℕ). map (line_in bytes) lines ++ map without_cr (raw_lines r)) (sym none) ∙ so.texts) in
    record {
      places = sym (append-nil lines)
          ∙ (ap (λ (r : List ℕ). lines ++ places_from start (raw_lines r)) (sym none) ∙ so.places);
      texts = texts;
      within = so.within;
      few = few_lines bytes lines texts;
    }

one_line : (xs : List ℕ) → 0 < length xs → IsUnbroken xs → raw_lines xs ≡ xs ∷ []
one_line [] p all = absurd (omega arith)
one_line (x ∷ xs) p all = raw_lines_none x xs (recursion_from_All (λ b. is_line_feed b ≡ false) (x ∷ xs) all)

pub lines_last : (bytes : List ℕ) (start : ℕ) (lines : List Line) (line : Line)
    → LinesSoFar bytes start (length bytes) lines → start < length bytes → CutsLine bytes start (length bytes) line
    → AreLinesOf bytes (lines ++ line ∷ [])
lines_last bytes start lines line so l cut =
    let part : List ℕ = slice_range bytes start (length bytes) in
    let all : part ≡ drop start bytes = take_rest bytes start in
    let len : length part + start ≡ length bytes = length-slice bytes start (length bytes) so.begun (omega arith) in
    let cuts : raw_lines (drop start bytes) ≡ part ∷ [] =
    ap raw_lines (sym all) ∙ one_line part (omega arith) so.unbroken in
    let texts : map (line_in bytes) (lines ++ line ∷ []) ≡ lines_of bytes =
    rw (map_push (line_in bytes) lines line, cut.text)
    (ap (λ (ls : List (List ℕ)). map (line_in bytes) lines ++ map without_cr ls) (sym cuts) ∙ so.texts) in
    record {
      places = sym (append-nil (lines ++ line ∷ []))
          ∙ (places_step lines line part [] start (length bytes) cut.start_is cut.end_is len
          ∙ (ap (λ (ls : List (List ℕ)). lines ++ places_from start ls) (sym cuts) ∙ so.places));
      texts = texts;
      within = All-push (IsLineWithin bytes) _ _ so.within
          (omega (arith, cut.start_is, cut.end_is), cut.within);
      few = few_lines bytes (lines ++ line ∷ []) texts;
    }

-- a CR at the end of a slice
pub cr_at_end : (xs : List ℕ) (b : ℕ) → b ≡ 13 → without_cr (xs ++ b ∷ []) ≡ xs
cr_at_end [] b e = rw e refl
cr_at_end (x ∷ []) b e = rw e refl
cr_at_end (x ∷ y ∷ xs) b e = ap (λ (r : List ℕ). x ∷ r) (cr_at_end (y ∷ xs) b e)

pub no_cr_at_end : (xs : List ℕ) (b : ℕ) → nat_eq b 13 ≡ false → without_cr (xs ++ b ∷ []) ≡ xs ++ b ∷ []
no_cr_at_end [] b e = rw e refl
no_cr_at_end (x ∷ []) b e = rw e refl
no_cr_at_end (x ∷ y ∷ xs) b e = ap (λ (r : List ℕ). x ∷ r) (no_cr_at_end (y ∷ xs) b e)

-- a slice that is not empty, by its last byte
last_apart : (bytes : List ℕ) (start end : ℕ) → start < end → end ≤ length bytes
    → slice_range bytes start end ≡ slice_range bytes start (end - 1) ++ get_or bytes (end - 1) 0 ∷ []
last_apart bytes start end l w =
    let same : end - 1 + 1 ≡ end = omega arith in
    ap (λ k. slice_range bytes start k) (sym same) ∙ slice_more bytes start (end - 1) (omega arith) (omega arith)

-- the line with a CR at its end, and the line with none
pub cut_cr : (bytes : List ℕ) (start end : ℕ) → start < end → end ≤ length bytes
    → nat_eq (get_or bytes (end - 1) 0) 13 ≡ true → CutsLine bytes start end (record { start = start; end = end - 1 })
cut_cr bytes start end l w e =
    let text : without_cr (slice_range bytes start end) ≡ slice_range bytes start (end - 1) =
    ap without_cr (last_apart bytes start end l w) ∙ cr_at_end _ _ (eqb-true _ _ e) in
    record {
      start_is = refl;
      text = sym text;
      end_is = omega (arith, ap length text, length-slice bytes start (end - 1) (omega arith) (omega arith));
      within = omega arith;
    }

pub cut_plain : (bytes : List ℕ) (start end : ℕ) → start ≤ end → end ≤ length bytes
    → (start < end → nat_eq (get_or bytes (end - 1) 0) 13 ≡ false) → CutsLine bytes start end (record { start = start; end = end })
cut_plain bytes start end l w e =
    let text : without_cr (slice_range bytes start end) ≡ slice_range bytes start end = elim (cases_lt start end) [
      | inl less ↦ rw (last_apart bytes start end less w) (no_cr_at_end _ _ (e less))
      | inr more ↦ (let none : end - start ≡ 0 = omega arith in rw none refl)
    ] in
    record {
      start_is = refl;
      text = sym text;
      end_is = omega (arith, ap length text, length-slice bytes start end l w);
      within = w;
    }

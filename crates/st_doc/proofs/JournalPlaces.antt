-- How many lines stand before the first that begins a journal, and where that one stands.
use Rattle.std.proofs.Common.{◌≡◌, ℕ, zero, suc, ◌+◌, ◌<◌, ◌≤◌, List, [], ◌∷◌, length, map, take, drop, Bool, true, false, refl, ap, sym, ◌∙◌, subst, arith}
use Rattle.std.specs.Prelude.{Result, Ok, Err, IfOk, Option, Some, None, All, option_map, slice_get, slice_index_or, if◌then◌else◌}
use Rattle.std.proofs.Math.Seq.{drop-cons}
use Rattle.std.proofs.lemmas.List.{length-map}
use Rattle.std.proofs.lemmas.Result.{IfOk-weaker}
use Rattle.st_text.specs.declared.line_places.Line.{Line}
use Rattle.st_text.specs.Lines.{lines_of, line_in, IsLineWithin, AreLinesOf}
use Rattle.st_grammar.specs.declared.doc.JournalAt.{JournalAt}
use Rattle.st_grammar.specs.declared.doc.Doc.{Doc}
use Rattle.st_grammar.specs.declared.doc.DocRead.{DocRead}
use Rattle.st_grammar.specs.declared.doc.DocRead.TheVariants as reads
use Rattle.st_token.specs.declared.fault.LineFault.{LineFault}
use Rattle.st_grammar.specs.Draft.{Draft, nothing}
use Rattle.st_grammar.specs.Reading.{begins_journal, first_journal, place_behind, lines_read, journals_at, doc_at, doc_with, declared_on, read_of, Reads, IsPlaceWithin, IsWithinRead}
use Rattle.st_doc.specs.Counted.{IsCount}

low_by : (lines : List (List ℕ)) (b : Bool) → first_journal lines ≤ length lines → (if b then 0 else suc (first_journal lines)) ≤ suc (length lines)
low_by lines true low = omega arith
low_by lines false low = omega (arith, low)

first_low : (lines : List (List ℕ)) → first_journal lines ≤ length lines
first_low [] = omega arith
first_low (line ∷ lines) = low_by lines (begins_journal line) (first_low lines)

-- none of the first n lines begins a journal
abbrev pub Passed : List (List ℕ) → ℕ → Type 0
Passed lines n = first_journal lines ≡ n + first_journal (drop n lines)

passed_next : (lines : List (List ℕ)) (n : ℕ) (line : List ℕ) → n < length lines → slice_index_or lines n [] ≡ line → begins_journal line ≡ false → Passed lines n → Passed lines (n + 1)
passed_next lines n line low is none passed =
    let one : n + 1 ≡ suc n = omega arith in
    let here : first_journal (drop n lines) ≡ suc (first_journal (drop (suc n) lines)) = ap first_journal (drop-cons lines n [] low ∙ ap (λ l. l ∷ drop (suc n) lines) is) ∙ rw none refl in
    let rest : first_journal (drop (suc n) lines) ≡ first_journal (drop (n + 1) lines) = ap (λ k. first_journal (drop k lines)) (sym one) in
    omega (arith, passed, here, rest)

passed_here : (lines : List (List ℕ)) (n : ℕ) (line : List ℕ) → n < length lines → slice_index_or lines n [] ≡ line → begins_journal line ≡ true → Passed lines n → n ≡ first_journal lines
passed_here lines n line low is some passed =
    let here : first_journal (drop n lines) ≡ 0 = ap first_journal (drop-cons lines n [] low ∙ ap (λ l. l ∷ drop (suc n) lines) is) ∙ rw some refl in
    omega (arith, passed, here)

text_at : (bytes : List ℕ) (places : List Line) (n : ℕ) (d : Line) → n < length places → slice_index_or (map (line_in bytes) places) n [] ≡ line_in bytes (slice_index_or places n d)
text_at bytes [] n d low = absurd (omega (arith, low))
text_at bytes (p ∷ ps) zero d low = refl
text_at bytes (p ∷ ps) (suc n) d low = text_at bytes ps n d (omega (arith, low))

low_text : (bytes : List ℕ) (places : List Line) (n : ℕ) → n < length places → n < length (map (line_in bytes) places)
low_text bytes places n low = let same = length-map places (line_in bytes) in omega (arith, low, same)

-- the same by the place of a line
pub place_passed : (bytes : List ℕ) (places : List Line) (n : ℕ) (d : Line) → n < length places → begins_journal (line_in bytes (slice_index_or places n d)) ≡ false → Passed (map (line_in bytes) places) n → Passed (map (line_in bytes) places) (n + 1)
place_passed bytes places n d low none passed = passed_next (map (line_in bytes) places) n (line_in bytes (slice_index_or places n d)) (low_text bytes places n low) (text_at bytes places n d low) none passed

pub place_here : (bytes : List ℕ) (places : List Line) (n : ℕ) (d : Line) → n < length places → begins_journal (line_in bytes (slice_index_or places n d)) ≡ true → Passed (map (line_in bytes) places) n → n ≡ first_journal (map (line_in bytes) places)
place_here bytes places n d low some passed = passed_here (map (line_in bytes) places) n (line_in bytes (slice_index_or places n d)) (low_text bytes places n low) (text_at bytes places n d low) some passed

-- the lines at the first places are the first lines
first_texts : (bytes : List ℕ) (places : List Line) (n : ℕ) → map (line_in bytes) (take n places) ≡ take n (map (line_in bytes) places)
first_texts bytes [] zero = refl
first_texts bytes [] (suc n) = refl
first_texts bytes (p ∷ ps) zero = refl
first_texts bytes (p ∷ ps) (suc n) = ap (λ ls. line_in bytes p ∷ ls) (first_texts bytes ps n)

take_all : (lines : List (List ℕ)) → take (length lines) lines ≡ lines
take_all [] = refl
take_all (line ∷ lines) = ap (λ ls. line ∷ ls) (take_all lines)

behind_all : (places : List Line) → place_behind places (length places) ≡ None
behind_all places = ap (option_map (λ (p : Line). record { byte = p.start; line = length places + 1 })) (none_there places)
  where
    none_there : (ps : List Line) → slice_get ps (length ps) ≡ None
    none_there [] = refl
    none_there (p ∷ ps) = none_there ps

lines_are : (journals : Bool) (bytes : List ℕ) (places : List Line) (n : ℕ) → AreLinesOf bytes places → IsCount journals bytes places n → map (line_in bytes) (take n places) ≡ lines_read journals bytes
lines_are true bytes places n are count =
    first_texts bytes places n ∙ ap (λ ls. take n ls) are.texts ∙ ap (λ k. take k (lines_of bytes)) (count ∙ ap first_journal are.texts)
lines_are false bytes places n are count =
    first_texts bytes places n ∙ ap (λ k. take k (map (line_in bytes) places)) (count ∙ sym (length-map places (line_in bytes))) ∙ take_all (map (line_in bytes) places) ∙ are.texts

place_is : (journals : Bool) (bytes : List ℕ) (places : List Line) (n : ℕ) → AreLinesOf bytes places → IsCount journals bytes places n → place_behind places n ≡ journals_at journals bytes
place_is true bytes places n are count = ap (place_behind places) (count ∙ ap first_journal are.texts) ∙ ap (λ ps. place_behind ps (first_journal (lines_of bytes))) are.places
place_is false bytes places n are count = ap (place_behind places) count ∙ behind_all places

pub count_low : (journals : Bool) (bytes : List ℕ) (places : List Line) (n : ℕ) → IsCount journals bytes places n → n ≤ length places
count_low true bytes places n count =
    let low = first_low (map (line_in bytes) places) in
    let same = length-map places (line_in bytes) in
    omega (arith, count, low, same)
count_low false bytes places n count = omega (arith, count)

-- the place of a line is within the bytes
place_within : (bytes : List ℕ) (places : List Line) (n : ℕ) → All (IsLineWithin bytes) places → length places ≤ length bytes → IsPlaceWithin (length bytes) (place_behind places n)
place_within bytes places n within few = at_place (slice_get places n) refl
  where
    low_there : (ps : List Line) (k : ℕ) (p : Line) → slice_get ps k ≡ Some p → k < length ps
    low_there [] k p is = absurd (cc)
    low_there (q ∷ ps) zero p is = omega arith
    low_there (q ∷ ps) (suc k) p is = let rest = low_there ps k p is in omega (arith, rest)

    is_there : (ps : List Line) (k : ℕ) (p : Line) → slice_get ps k ≡ Some p → All (IsLineWithin bytes) ps → IsLineWithin bytes p
    is_there [] k p is all = absurd (cc)
    is_there (q ∷ ps) zero p is all = subst (IsLineWithin bytes) (let same : q ≡ p = cc in same) (all 0 q (omega arith))
    is_there (q ∷ ps) (suc k) p is all = is_there ps k p is (λ i d low. all (suc i) d (omega (arith, low)))

    at_place : (o : Option Line) → slice_get places n ≡ o → IsPlaceWithin (length bytes) (option_map (λ (p : Line). record { byte = p.start; line = n + 1 }) o)
    at_place None is = tt
    at_place (Some p) is =
        let low = low_there places n p is in
        let inside = is_there places n p is within in
        (omega (arith, inside.0, inside.1), omega (arith, low, few))

-- so what is read is what the bytes declare
pub read_exact : {E : Type 0} (result : Result DocRead E) (journals : Bool) (bytes : List ℕ) (places : List Line) (n : ℕ) (at : Option JournalAt) (d : Draft) → AreLinesOf bytes places → IsCount journals bytes places n → at ≡ place_behind places n → d ≡ nothing → IfOk result (λ read. Reads read (doc_with at (declared_on d (map (line_in bytes) (take n places))))) → IfOk result (λ read. Reads read (read_of journals bytes))
read_exact result journals bytes places n at d are count there none given =
    let same : doc_with at (declared_on d (map (line_in bytes) (take n places))) ≡ read_of journals bytes =
    ap (λ o. doc_with o (declared_on d (map (line_in bytes) (take n places)))) (there ∙ place_is journals bytes places n are count)
    ∙ ap (λ (x : Draft). doc_with (journals_at journals bytes) (declared_on x (map (line_in bytes) (take n places)))) none
    ∙ ap (λ ls. doc_with (journals_at journals bytes) (declared_on nothing ls)) (lines_are journals bytes places n are count) in
    subst (λ (r : Result Doc LineFault). IfOk result (λ read. Reads read r)) same given

placed : (at : Option JournalAt) (read : Result Draft LineFault) (doc : Doc) → doc_with at read ≡ Ok doc → doc.journal_at ≡ at
placed at (Ok d) doc e = let same : doc_at at d ≡ doc = cc in ap (λ (x : Doc). x.journal_at) (sym same)
placed at (Err fault) doc e = absurd (cc)

-- and its place is within the bytes
read_within : (n : ℕ) (at : Option JournalAt) (declared : Result Draft LineFault) (read : DocRead) → IsPlaceWithin n at → Reads read (doc_with at declared) → IsWithinRead n read
read_within n at declared (reads.Doc doc) within e = subst (IsPlaceWithin n) (sym (placed at declared doc e)) within
read_within n at declared (reads.Fault fault) within e = tt

pub read_placed : {E : Type 0} (result : Result DocRead E) (bytes : List ℕ) (places : List Line) (n : ℕ) (at : Option JournalAt) (declared : Result Draft LineFault) → AreLinesOf bytes places → at ≡ place_behind places n → IfOk result (λ read. Reads read (doc_with at declared)) → IfOk result (IsWithinRead (length bytes))
read_placed result bytes places n at declared are there given =
    let within = subst (IsPlaceWithin (length bytes)) (sym there) (place_within bytes places n are.within are.few) in
    IfOk-weaker result (λ read. Reads read (doc_with at declared)) (IsWithinRead (length bytes)) (λ read. read_within (length bytes) at declared read within) given

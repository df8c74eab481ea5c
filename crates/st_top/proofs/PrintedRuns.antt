-- A run that is printed is read as the document and the journals, and replayed.
use Rattle.std.proofs.Common.{◌≡◌, ℕ, suc, ◌+◌, List, [], ◌∷◌, ◌++◌, length, length-append, map, take, drop, cond, refl, ap, sym, ◌∙◌, subst, append_assoc, inl, inr, arith}
use Rattle.std.specs.Prelude.{◌⊎◌, ◌&&◌, Bool, true, false, bytes_eq, codes, reverse, slice_get, Option, Some, None, option_map, Result, Ok, Err}
use Rattle.std.specs.List.{AllByRecursion, onto_first}
use Rattle.std.proofs.Math.Seq.{drop-append_seam, take-append_seam}
use Rattle.std.proofs.lemmas.List.{append-nil, length-map, reverse-reverse}
use Rattle.std.proofs.lemmas.List.Elements.{recursion_from_All, All-from_recursion}
use Rattle.std.proofs.lemmas.Slice.Eq.{bytes_eq-Decides}
use Rattle.st_text.specs.declared.line_places.Line.{Line}
use Rattle.st_text.specs.AllowedBytes.{has_allowed_bytes}
use Rattle.st_text.specs.Lines.{lines_of, raw_lines, places_from, without_cr, is_line_feed}
use Rattle.st_text.specs.Tokens.{tokens_of}
use Rattle.st_text.specs.Words.{IsWord, ended, line_text, text_of}
use Rattle.st_text.proofs.WordLemmas.{words_cut_again, word_lines_cut_again}
use Rattle.st_net.specs.declared.parts.Parts.{Parts}
use Rattle.st_net.specs.Names.{is_name}
use Rattle.st_net.specs.Faults.{group_of, device_names, link_names}
use Rattle.st_net.specs.Groups.{Group, IsSound, are_names, are_new}
use Rattle.st_net.proofs.NameSteps.{named_both}
use Rattle.st_net.proofs.Sound.{sound}
use Rattle.st_event.specs.declared.journal.Journal.{Journal}
use Rattle.st_event.specs.Legal.{IsLegal}
use Rattle.st_token.specs.declared.fault.FaultKind.{FaultKind}
use Rattle.st_token.specs.declared.fault.FaultKind.TheVariants as kinds
use Rattle.st_token.specs.declared.fault.LineFault.{LineFault}
use Rattle.st_token.specs.Reading.{on_line, read_on}
use Rattle.st_token.specs.Steps.{◌>>=◌}
use Rattle.st_token.proofs.PrintedTokens.{name_word, literal}
use Rattle.st_token.proofs.ReadTokens.{came_from, chosen}
use Rattle.st_entry.specs.Words.{Words}
use Rattle.st_grammar.specs.declared.doc.Doc.{Doc}
use Rattle.st_grammar.specs.declared.doc.JournalAt.{JournalAt}
use Rattle.st_grammar.specs.Draft.{Draft, has_header, nothing as no_draft}
use Rattle.st_grammar.specs.Lines.{header_line, keyword_line, tokens_line, line_of}
use Rattle.st_grammar.specs.Reading.{begins_journal, is_journal_word, declared_on, doc_of, doc_with, document_of, first_journal, headed, input_of, journals_at, lines_read, place_behind}
use Rattle.st_grammar.specs.Sound.{IsSoundDoc, IsSoundGroup}
use Rattle.st_doc.specs.Printed.{doc_lines, printed_doc, without_journals}
use Rattle.st_doc.proofs.PrintedDocs.{printed_back}
use Rattle.st_journal.specs.JournalLines.{group_names}
use Rattle.st_journal.specs.JournalReading.{journals_in}
use Rattle.st_journal.specs.Printing.{journal_text, journal_words, entries_lines}
use Rattle.st_journal.specs.ReadingBack.{AreNames, AreNumbered, AreTopologies, IsJournalAmong, lines_where, journals_lines, journals_text as numbered_text}
use Rattle.st_journal.proofs.PrintedBack.{each_prints_back}
use Rattle.st_replay.specs.Again.{histories_of}
use Rattle.st_replay.specs.Replaying.{app_names, AreLegal, Replay, journal_bytes, journal_line, replay_of, replay_with}
use Rattle.st_replay.proofs.Names.{names_spelled}
use Rattle.st_top.specs.Output.{journals_text}
use Rattle.st_serial.specs.Kept.{groups_of}
use Rattle.st_words.specs.declared.job.Form.{Form}
use Rattle.st_words.specs.declared.job.Form.TheVariants as forms
use Rattle.st_replay.specs.declared.status.Status.{Status}
use Rattle.st_replay.specs.declared.status.Status.TheVariants as statuses
use Rattle.st_top.specs.Answer.{Results, EndsOnReplay}
use Rattle.st_top.specs.PrintedRuns.{IsRun, PrintedRunsAreReplayed, placed, run_text}
use Rattle.st_top.proofs.Endings.{none_illegal}

-- lines that end with an LF are cut by themselves

onto_both : (b : ℕ) (xs ys : List (List ℕ)) (x : List ℕ) → onto_first b ((x ∷ xs) ++ ys) ≡ onto_first b (x ∷ xs) ++ ys
onto_both b xs ys x = refl

-- the lines of a text that ends so are some
record AreSome (lines : List (List ℕ)) : Type 0 where
  first : List ℕ
  rest : List (List ℕ)
  are : lines ≡ first ∷ rest

some_by : (feed : Bool) (b : ℕ) (lines : List (List ℕ)) → AreSome lines → AreSome (cond feed ([] ∷ lines) (onto_first b lines))
some_by true b lines some = record { first = []; rest = lines; are = refl }
some_by false b lines some = record { first = b ∷ some.first; rest = some.rest; are = ap (onto_first b) some.are }

ended_some : (a : List ℕ) → AreSome (raw_lines (a ++ 10 ∷ []))
ended_some [] = record { first = []; rest = []; are = refl }
ended_some (b ∷ a) = some_by (is_line_feed b) b (raw_lines (a ++ 10 ∷ [])) (ended_some a)

ended_by : (feed : Bool) (b : ℕ) (xs ys zs : List (List ℕ)) → AreSome xs → zs ≡ xs ++ ys → cond feed ([] ∷ zs) (onto_first b zs) ≡ cond feed ([] ∷ xs) (onto_first b xs) ++ ys
ended_by true b xs ys zs some is = ap (λ ls. [] ∷ ls) is
ended_by false b xs ys zs some is = ap (onto_first b) (is ∙ ap (λ ls. ls ++ ys) some.are) ∙ ap (λ ls. onto_first b ls ++ ys) (sym some.are)

cut_ended : (a b : List ℕ) → raw_lines ((a ++ 10 ∷ []) ++ b) ≡ raw_lines (a ++ 10 ∷ []) ++ raw_lines b
cut_ended [] b = refl
cut_ended (x ∷ a) b = ended_by (is_line_feed x) x (raw_lines (a ++ 10 ∷ [])) (raw_lines b) (raw_lines ((a ++ 10 ∷ []) ++ b)) (ended_some a) (cut_ended a b)

cut_text : (lines : List Words) (b : List ℕ) → raw_lines (text_of lines ++ b) ≡ raw_lines (text_of lines) ++ raw_lines b
cut_text [] b = refl
cut_text (words ∷ lines) b =
    let a = line_text words in
    ap raw_lines (append_assoc (ended a) (text_of lines) b)
    ∙ cut_ended a (text_of lines ++ b)
    ∙ ap (λ ls. raw_lines (ended a) ++ ls) (cut_text lines b)
    ∙ sym (append_assoc (raw_lines (ended a)) (raw_lines (text_of lines)) (raw_lines b))
    ∙ ap (λ ls. ls ++ raw_lines b) (sym (cut_ended a (text_of lines)))

map_both : (xs ys : List (List ℕ)) → map without_cr (xs ++ ys) ≡ map without_cr xs ++ map without_cr ys
map_both [] ys = refl
map_both (x ∷ xs) ys = ap (λ ls. without_cr x ∷ ls) (map_both xs ys)

pub lines_both : (lines : List Words) (b : List ℕ) → lines_of (text_of lines ++ b) ≡ lines_of (text_of lines) ++ lines_of b
lines_both lines b = ap (map without_cr) (cut_text lines b) ∙ map_both (raw_lines (text_of lines)) (raw_lines b)

-- the bytes of lines with an LF behind each
span : List (List ℕ) → ℕ
span [] = 0
span (line ∷ lines) = (length line + 1) + span lines

span_both : (xs ys : List (List ℕ)) → span (xs ++ ys) ≡ span xs + span ys
unfolding span
span_both [] ys = omega arith
span_both (x ∷ xs) ys = omega (arith, span_both xs ys)

span_by : (feed : Bool) (b n : ℕ) (lines : List (List ℕ)) → AreSome lines → span lines ≡ n → span (cond feed ([] ∷ lines) (onto_first b lines)) ≡ suc n
unfolding span
span_by true b n lines some is = omega (arith, is)
span_by false b n lines some is =
    let first : span (onto_first b lines) ≡ (suc (length some.first) + 1) + span some.rest = ap (λ ls. span (onto_first b ls)) some.are in
    let all : span lines ≡ (length some.first + 1) + span some.rest = ap span some.are in
    omega (arith, first, all, is)

span_ended : (a : List ℕ) → span (raw_lines (a ++ 10 ∷ [])) ≡ length (a ++ 10 ∷ [])
unfolding span
span_ended [] = refl
span_ended (b ∷ a) = span_by (is_line_feed b) b (length (a ++ 10 ∷ [])) (raw_lines (a ++ 10 ∷ [])) (ended_some a) (span_ended a)

span_text : (lines : List Words) → span (raw_lines (text_of lines)) ≡ length (text_of lines)
unfolding span
span_text [] = refl
span_text (words ∷ lines) =
    let a = line_text words in
    let both : span (raw_lines (ended a ++ text_of lines)) ≡ span (raw_lines (ended a)) + span (raw_lines (text_of lines)) = ap span (cut_ended a (text_of lines)) ∙ span_both (raw_lines (ended a)) (raw_lines (text_of lines)) in
    omega (arith, both, span_ended a, span_text lines, length-append (ended a) (text_of lines))

-- the place of the first line behind others
place_at : (at : ℕ) (xs ys : List (List ℕ)) (y : List ℕ) → (end : ℕ) × (slice_get (places_from at (xs ++ y ∷ ys)) (length xs) ≡ Some (record { start = at + span xs; end = end }))
unfolding span
place_at at [] ys y = (at + length (without_cr y), ap (λ n. Some (record { start = n; end = at + length (without_cr y) })) (omega arith))
place_at at (x ∷ xs) ys y =
    let rest = place_at (at + length x + 1) xs ys y in
    (rest.0, rest.1 ∙ ap (λ n. Some (record { start = n; end = rest.0 })) (omega arith))

place_none : (at : ℕ) (xs : List (List ℕ)) → slice_get (places_from at xs) (length xs) ≡ None
place_none at [] = refl
place_none at (x ∷ xs) = place_none (at + length x + 1) xs

-- no line of a document that is read begins a journal

no_keyword : (b : Bool) (d next : Draft) (args : List (List ℕ)) → cond b (keyword_line d (codes "journal") args) (header_line d (codes "journal" ∷ args)) ≡ Ok next → ⊥
unfolding keyword_line header_line
no_keyword true d next args is = cc
no_keyword false d next [] is = cc
no_keyword false d next (x ∷ []) is = cc
no_keyword false d next (x ∷ y ∷ args) is = cc

not_read : (d next : Draft) (args : List (List ℕ)) → tokens_line d (codes "journal" ∷ args) ≡ Ok next → ⊥
not_read d next args is = no_keyword (has_header d) d next args is

no_journal : (d next : Draft) (tokens : List (List ℕ)) → tokens_line d tokens ≡ Ok next → is_journal_word tokens ≡ false
no_journal d next [] is = refl
no_journal d next (word ∷ args) is = by_word (bytes_eq word (codes "journal")) refl
  where
    by_word : (b : Bool) → bytes_eq word (codes "journal") ≡ b → b ≡ false
    by_word false e = refl
    by_word true e =
        let same : word ≡ codes "journal" = (bytes_eq-Decides word (codes "journal")).0 e in
        absurd (not_read d next args (subst (λ (w : List ℕ). tokens_line d (w ∷ args) ≡ Ok next) same is))

line_clean : (d next : Draft) (line : List ℕ) → line_of d line ≡ Ok next → begins_journal line ≡ false
unfolding line_of
line_clean d next line is = no_journal d next (tokens_of line) (chosen (has_allowed_bytes line) (tokens_line d (tokens_of line)) next kinds.Byte is).1

was_good : (n : ℕ) (r : Result Draft FaultKind) (x : Draft) → on_line n r ≡ Ok x → r ≡ Ok x
was_good n (Ok y) x e = let same : y ≡ x = cc in ap Ok same
was_good n (Err kind) x e = absurd (cc)

first_behind : (lines more : List (List ℕ)) (n : ℕ) (d last : Draft) → read_on line_of d n lines ≡ Ok last → first_journal (lines ++ more) ≡ length lines + first_journal more
first_behind [] more n d last is = omega arith
first_behind (line ∷ lines) more n d last is =
    let next = came_from (on_line n (line_of d line)) _ last is in
    let clean = line_clean d next.0 line (was_good n (line_of d line) next.0 next.1) in
    let rest = first_behind lines more (n + 1) next.0 last next.2 in
    let here : first_journal ((line ∷ lines) ++ more) ≡ suc (first_journal (lines ++ more)) = ap (λ b. cond b 0 (suc (first_journal (lines ++ more)))) clean in
    omega (arith, here, rest)

-- what stands behind a document is nothing, or lines of which the first begins a journal
record BeginsJournals (bytes : List ℕ) : Type 0 where
  some : AreSome (raw_lines bytes)
  first : first_journal (lines_of bytes) ≡ 0

abbrev IsBehind : List ℕ → Type 0
IsBehind bytes = (bytes ≡ []) ⊎ BeginsJournals bytes

-- where the journals behind the text of a document stand
record StandsAt (lines : List Words) (behind : List ℕ) : Type 0 where
  at : Option JournalAt
  place : journals_at true (text_of lines ++ behind) ≡ at
  bytes : journal_bytes at (text_of lines ++ behind) ≡ behind

behind_raw : (lines : List Words) (behind : List ℕ) → first_journal (lines_of (text_of lines ++ behind)) ≡ length (raw_lines (text_of lines))
    → journals_at true (text_of lines ++ behind) ≡ place_behind (places_from 0 (raw_lines (text_of lines) ++ raw_lines behind)) (length (raw_lines (text_of lines)))
behind_raw lines behind count =
    ap (λ n. place_behind (places_from 0 (raw_lines (text_of lines ++ behind))) n) count
    ∙ ap (λ ls. place_behind (places_from 0 ls) (length (raw_lines (text_of lines)))) (cut_text lines behind)

abbrev place_of_line : ℕ → Option Line → Option JournalAt
place_of_line n place = option_map (λ (p : Line). record { byte = p.start; line = n + 1 }) place

stands_at : (lines : List Words) (behind : List ℕ) → IsBehind behind → first_journal (lines_of (text_of lines ++ behind)) ≡ length (raw_lines (text_of lines)) → StandsAt lines behind
stands_at lines behind (inl none) count =
    let n = length (raw_lines (text_of lines)) in
    let nothing_more : raw_lines (text_of lines) ++ raw_lines behind ≡ raw_lines (text_of lines) = ap (λ b. raw_lines (text_of lines) ++ raw_lines b) none ∙ append-nil (raw_lines (text_of lines)) in
    record {
      at = None;
      place = behind_raw lines behind count ∙ ap (λ ls. place_behind (places_from 0 ls) n) nothing_more ∙ ap (place_of_line n) (place_none 0 (raw_lines (text_of lines)));
      bytes = sym none;
    }
stands_at lines behind (inr begins) count =
    let text = text_of lines in
    let raw = raw_lines text in
    let there = place_at 0 raw begins.some.rest begins.some.first in
    let start : 0 + span raw ≡ length text = omega (arith, span_text lines) in
    record {
      at = Some (record { byte = 0 + span raw; line = length raw + 1 });
      place = behind_raw lines behind count ∙ ap (λ ls. place_behind (places_from 0 (raw ++ ls)) (length raw)) begins.some.are ∙ ap (place_of_line (length raw)) there.1;
      bytes = ap (λ n. drop n (text ++ behind)) start ∙ drop-append_seam text behind;
    }

-- so the document is read, with this place
record IsReadBefore (doc : Doc) (behind : List ℕ) : Type 0 where
  at : Option JournalAt
  read : input_of (printed_doc doc ++ behind) ≡ Ok (placed at doc)
  bytes : journal_bytes at (printed_doc doc ++ behind) ≡ behind

first_none : (behind : List ℕ) → IsBehind behind → first_journal (lines_of behind) ≡ 0
first_none behind (inl none) = ap (λ b. first_journal (lines_of b)) none
first_none behind (inr begins) = begins.first

read_before : (doc : Doc) (behind : List ℕ) → IsSoundDoc doc → IsBehind behind → IsReadBefore doc behind
read_before doc behind s is =
    let text = printed_doc doc in
    let first = lines_of text in
    let all = lines_of (text ++ behind) in
    let alone : document_of text ≡ Ok (without_journals doc) = printed_back doc s in
    let draft = came_from (declared_on no_draft first) (λ (d : Draft). Ok (doc_of d)) (without_journals doc) alone in
    let good = came_from (read_on line_of no_draft 1 first) (headed (length first + 1)) draft.0 draft.1 in
    let made : doc_of draft.0 ≡ without_journals doc = cc in
    let both : all ≡ first ++ lines_of behind = lines_both (doc_lines doc) behind in
    let before : first_journal all ≡ length first + first_journal (lines_of behind) = ap first_journal both ∙ first_behind first (lines_of behind) 1 no_draft good.0 good.1 in
    let count : first_journal all ≡ length first = omega (arith, before, first_none behind is) in
    let raw_count : first_journal all ≡ length (raw_lines text) = count ∙ length-map (raw_lines text) without_cr in
    let where_is = stands_at (doc_lines doc) behind is raw_count in
    let lines : lines_read true (text ++ behind) ≡ first = ap (λ n. take n all) count ∙ ap (take (length first)) both ∙ take-append_seam first (lines_of behind) in
    record {
      at = where_is.at;
      read = ap (λ o. doc_with o (declared_on no_draft (lines_read true (text ++ behind)))) where_is.place
          ∙ ap (λ ls. doc_with where_is.at (declared_on no_draft ls)) lines
          ∙ ap (doc_with where_is.at) draft.1
          ∙ ap (λ (x : Doc). Ok (placed where_is.at x)) made;
      bytes = where_is.bytes;
    }

-- the text of journals

text_both : (xs ys : List Words) → text_of (xs ++ ys) ≡ text_of xs ++ text_of ys
text_both [] ys = refl
text_both (words ∷ xs) ys = ap (λ t. ended (line_text words) ++ t) (text_both xs ys) ∙ sym (append_assoc (ended (line_text words)) (text_of xs) (text_of ys))

at_amid : (front groups : List Group) (g : Group) → slice_get (front ++ g ∷ groups) (length front) ≡ Some g
at_amid [] groups g = refl
at_amid (h ∷ front) groups g = at_amid front groups g

-- groups behind others, whose numbers begin where those end
record AreLast (all groups : List Group) (n : ℕ) : Type 0 where
  front : List Group
  are : front ++ groups ≡ all
  number : n ≡ length front

last_next : (all groups : List Group) (g : Group) (n : ℕ) → AreLast all (g ∷ groups) n → AreLast all groups (n + 1)
last_next all groups g n last =
    let number = last.number in
    record { front = last.front ++ g ∷ []; are = append_assoc last.front (g ∷ []) groups ∙ last.are; number = omega (arith, number, length-append last.front (g ∷ [])) }

last_first : (all groups : List Group) (g : Group) (n m : ℕ) → AreLast all (g ∷ groups) n → m ≡ n → slice_get all m ≡ Some g
last_first all groups g n m last same = ap (slice_get all) (same ∙ last.number) ∙ ap (λ gs. slice_get gs (length last.front)) (sym last.are) ∙ at_amid last.front groups g

journals_as : (all groups : List Group) (apps : List (List ℕ)) (journals : List Journal) (n : ℕ) → AreLast all groups n → AreNumbered n journals → length journals ≡ length groups
    → numbered_text all apps journals ≡ journals_text (histories_of groups journals) apps
journals_as all [] apps [] n last numbered each = refl
journals_as all [] apps (journal ∷ journals) n last numbered each = absurd (omega (arith, each))
journals_as all (g ∷ groups) apps [] n last numbered each = absurd (omega (arith, each))
journals_as all (g ∷ groups) apps (journal ∷ journals) n last numbered each =
    let there = last_first all groups g n journal.group last numbered.0 in
    let rest = journals_as all groups apps journals (n + 1) (last_next all groups g n last) numbered.1 (omega (arith, each)) in
    text_both (lines_where apps journal.entries (slice_get all journal.group)) (journals_lines all apps journals)
    ∙ ap (λ o. text_of (lines_where apps journal.entries o) ++ numbered_text all apps journals) there
    ∙ ap (λ t. journal_text g apps journal.entries ++ t) rest
    ∙ ap (λ es. journal_text g apps es ++ journals_text (histories_of groups journals) apps) (sym (reverse-reverse journal.entries))

some_before : (xs ys : List (List ℕ)) → AreSome xs → AreSome (xs ++ ys)
some_before xs ys some = record { first = some.first; rest = some.rest ++ ys; are = ap (λ ls. ls ++ ys) some.are }

head_begins : (g : Group) (rest : List ℕ) → is_name g.name ≡ true → BeginsJournals (ended (line_text (journal_words g)) ++ rest)
head_begins g rest named =
    let words = journal_words g in
    let line = line_text words in
    let all : AllByRecursion IsWord words = (literal (codes "journal") refl refl, (name_word g.name named, tt)) in
    let one : lines_of (ended line) ≡ line ∷ [] = ap lines_of (sym (append-nil (ended line))) ∙ word_lines_cut_again (words ∷ []) (all, tt) in
    let cut : lines_of (ended line ++ rest) ≡ line ∷ lines_of rest = ap (λ t. lines_of (t ++ rest)) (sym (append-nil (ended line))) ∙ lines_both (words ∷ []) rest ∙ ap (λ t. lines_of t ++ lines_of rest) (append-nil (ended line)) ∙ ap (λ ls. ls ++ lines_of rest) one in
    let begins : begins_journal line ≡ true = ap is_journal_word (words_cut_again words all) in
    record {
      some = subst AreSome (sym (cut_ended line rest)) (some_before (raw_lines (ended line)) (raw_lines rest) (ended_some line));
      first = ap first_journal cut ∙ ap (λ b. cond b 0 (suc (first_journal (lines_of rest)))) begins;
    }

journals_behind : (groups : List Group) (apps : List (List ℕ)) (journals : List Journal) → AllByRecursion IsSound groups → IsBehind (journals_text (histories_of groups journals) apps)
journals_behind [] apps journals all = inl refl
journals_behind (g ∷ groups) apps [] all = inl refl
journals_behind (g ∷ groups) apps (journal ∷ journals) all =
    let head = ended (line_text (journal_words g)) in
    let lines = text_of (entries_lines g apps 1 (reverse (reverse journal.entries))) in
    let more = journals_text (histories_of groups journals) apps in
    inr (subst BeginsJournals (sym (append_assoc head lines more)) (head_begins g (lines ++ more) all.0.name))

-- the names of a sound document

both_true : (p q : Bool) → p ≡ true → q ≡ true → (p && q) ≡ true
both_true p q a b = rw (a, b) refl

group_sound : (parts : Parts) → IsSoundGroup parts → IsSound (group_of parts)
group_sound parts s = sound parts s.name (named_both (device_names parts.devices) (link_names parts.links) s.named_devices s.named_links) s.built

groups_sound : (groups : List Parts) → AllByRecursion IsSoundGroup groups → AllByRecursion IsSound (map group_of groups)
groups_sound [] all = tt
groups_sound (parts ∷ groups) all = (group_sound parts all.0, groups_sound groups all.1)

groups_named : (groups : List Parts) → AllByRecursion IsSoundGroup groups → are_names (group_names (map group_of groups)) ≡ true
groups_named [] all = refl
groups_named (parts ∷ groups) all = both_true (is_name parts.name) (are_names (group_names (map group_of groups))) all.0.name (groups_named groups all.1)

same_names : (groups : List Parts) → map (λ (g : Parts). g.name) groups ≡ group_names (map group_of groups)
same_names [] = refl
same_names (parts ∷ groups) = ap (λ names. parts.name ∷ names) (same_names groups)

topologies : (doc : Doc) → IsSoundDoc doc → AreTopologies (groups_of doc)
topologies doc s =
    let each = recursion_from_All IsSoundGroup doc.groups s.groups in
    record {
      names = record { spelled = groups_named doc.groups each; new = subst (λ names. are_new [] names ≡ true) (same_names doc.groups) s.group_names };
      sound = All-from_recursion IsSound (groups_of doc) (groups_sound doc.groups each);
    }

applications : (doc : Doc) → IsSoundDoc doc → AreNames (app_names doc)
applications doc s = record { spelled = names_spelled doc s; new = s.app_names }

-- so a run that is printed is read back

legal_by : (all groups : List Group) (apps : List (List ℕ)) (journals : List Journal) (n : ℕ) → AreLast all groups n → AreNumbered n journals → length journals ≡ length groups → AllByRecursion (IsJournalAmong all apps) journals → AreLegal groups journals
legal_by all [] apps [] n last numbered each are = tt
legal_by all [] apps (journal ∷ journals) n last numbered each are = absurd (omega (arith, each))
legal_by all (g ∷ groups) apps [] n last numbered each are = absurd (omega (arith, each))
legal_by all (g ∷ groups) apps (journal ∷ journals) n last numbered each are =
    let there = last_first all groups g n journal.group last numbered.0 in
    let at = are.0.at in
    let same : are.0.group ≡ g = cc in
    (subst (λ (h : Group). IsLegal h (reverse journal.entries)) same are.0.legal, legal_by all groups apps journals (n + 1) (last_next all groups g n last) numbered.1 (omega (arith, each)) are.1)

many_groups : (doc : Doc) (journals : List Journal) → IsRun doc journals → length journals ≡ length (groups_of doc)
many_groups doc journals run = run.each ∙ sym (length-map doc.groups group_of)

all_last : (groups : List Group) → AreLast groups groups 0
all_last groups = record { front = []; are = refl; number = refl }

pub run_legal : (doc : Doc) (journals : List Journal) → IsRun doc journals → AreLegal (groups_of doc) journals
run_legal doc journals run = legal_by (groups_of doc) (groups_of doc) (app_names doc) journals 0 (all_last (groups_of doc)) run.numbered (many_groups doc journals run) (recursion_from_All (IsJournalAmong (groups_of doc) (app_names doc)) journals run.legal)

record IsReadAs (doc : Doc) (journals : List Journal) (text : List ℕ) : Type 0 where
  at : Option JournalAt
  read : replay_of text ≡ Ok (record { doc = placed at doc; journals = journals })

run_read : (doc : Doc) (journals : List Journal) → IsRun doc journals → IsReadAs doc journals (run_text forms.Replay doc journals)
run_read doc journals run =
    let groups = groups_of doc in
    let apps = app_names doc in
    let behind = journals_text (histories_of groups journals) apps in
    let text = printed_doc doc ++ behind in
    let before = read_before doc behind run.sound (journals_behind groups apps journals (groups_sound doc.groups (recursion_from_All IsSoundGroup doc.groups run.sound.groups))) in
    let back : journals_in groups apps (journal_line before.at) behind ≡ Ok journals =
    ap (journals_in groups apps (journal_line before.at)) (sym (journals_as groups groups apps journals 0 (all_last groups) run.numbered (many_groups doc journals run)))
    ∙ each_prints_back groups apps (journal_line before.at) journals (topologies doc run.sound) (applications doc run.sound) run.numbered (many_groups doc journals run) run.legal in
    record {
      at = before.at;
      read = ap (λ (r : Result Doc LineFault). r >>= replay_with text) before.read
          ∙ ap (λ b. journals_in groups apps (journal_line before.at) b >>= λ (js : List Journal). Ok (record { doc = placed before.at doc; journals = js })) before.bytes
          ∙ ap (λ (r : Result (List Journal) LineFault). r >>= λ (js : List Journal). Ok (record { doc = placed before.at doc; journals = js })) back;
    }

ends_by : (form : Form) (replay : Replay) (results : Results) (written : List ℕ) (status : Status) → AreLegal (groups_of replay.doc) replay.journals → EndsOnReplay form (Ok replay) results written status
    → (status ≡ statuses.Ok) × (results.journals ≡ replay.journals) × (written ≡ run_text form replay.doc replay.journals)
ends_by form replay results written statuses.Ok legal is = (refl, ap (λ (r : Results). r.journals) is.results_are, is.report)
ends_by form replay results written (statuses.Illegal group entry) legal is = absurd (none_illegal (groups_of replay.doc) replay.journals group entry legal is.first)
ends_by form replay results written _ legal is = absurd is

-- what is shown does not tell where the journals stood
shown_placed : (form : Form) (at : Option JournalAt) (doc : Doc) (journals : List Journal) → run_text form (placed at doc) journals ≡ run_text form doc journals
shown_placed forms.Text at doc journals = refl
shown_placed forms.Json at doc journals = refl
shown_placed forms.Replay at doc journals = refl

-- and replayed
pub printed_runs_are_replayed : PrintedRunsAreReplayed
printed_runs_are_replayed doc journals run few =
    let text = run_text forms.Replay doc journals in
    let as_it_is = run_read doc journals run in
    let legal = run_legal doc journals run in
    let replay : Replay = record { doc = placed as_it_is.at doc; journals = journals } in
    record {
      at = as_it_is.at;
      read = as_it_is.read;
      legal = legal;
      none = λ group entry i. none_illegal (groups_of doc) journals group entry legal i;
      can = λ form. record { bytes = text; replay = replay; told = refl; few = few; declared = as_it_is.read; legal = legal };
      ends = λ form results written status is.
          let end = ends_by form replay results written status legal (subst (λ (r : Result Replay LineFault). EndsOnReplay form r results written status) as_it_is.read is) in
          (end.0, end.1, end.2 ∙ shown_placed form as_it_is.at doc journals);
    }

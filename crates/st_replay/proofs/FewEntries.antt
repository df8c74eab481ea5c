-- A text that a source may give has few entries: each of them stands on a line of seven bytes at least.
use Rattle.std.proofs.Common.{◌≡◌, ℕ, zero, suc, ◌+◌, ◌-◌, ◌*◌, ◌≤◌, List, [], ◌∷◌, ◌++◌, length, length-append, take, drop, cond, subst, refl, ap, arith}
use Rattle.std.specs.Prelude.{Bool, true, false, ◌&&◌, nat_eq, Option, Some, None, option_map, Result, Ok, Err, ok_or, nat_lt, slice_get, bytes_eq, codes, map}
use Rattle.std.specs.List.{AllByRecursion, slice_split, onto_first, filter}
use Rattle.std.proofs.lemmas.List.Elements.{All-from_recursion}
use Rattle.st_io.specs.declared.reading.TheConstants.{MAX_BYTES}
use Rattle.st_text.specs.AllowedBytes.{has_allowed_bytes}
use Rattle.st_text.specs.Lines.{lines_of, raw_lines, without_cr, is_line_feed}
use Rattle.st_text.specs.Tokens.{tokens_of, is_blank, is_filled}
use Rattle.st_net.proofs.Tests.{both}
use Rattle.st_net.specs.Groups.{Group}
use Rattle.st_event.specs.declared.journal.Entry.{Entry}
use Rattle.st_event.specs.declared.journal.Journal.{Journal}
use Rattle.st_token.specs.declared.fault.FaultKind.{FaultKind}
use Rattle.st_token.specs.declared.fault.FaultKind.TheVariants as kinds
use Rattle.st_token.specs.declared.fault.LineFault.{LineFault}
use Rattle.st_token.specs.Counts.{one_of}
use Rattle.st_token.specs.Spelling.{known_name_in, is_comment}
use Rattle.st_token.specs.Reading.{on_line, read_on}
use Rattle.st_token.proofs.ReadTokens.{came_from, chose, chosen, refused, was_some}
use Rattle.st_entry.specs.Keywords.{reply_mark}
use Rattle.st_journal.specs.declared.reading.JournalsRead.{JournalsRead}
use Rattle.st_journal.specs.declared.reading.JournalsRead.TheVariants as reads
use Rattle.st_journal.specs.EntryWords.{has_event_count, has_reply_count}
use Rattle.st_journal.specs.EntryReading.{cut_at_colon, parts_of, entry_of}
use Rattle.st_journal.specs.JournalLines.{JournalDraft, nothing, empty_journals, filled, ended_with, journals_of, with_journal, group_names, journal_line, entry_in, with_entry, entry_line, begins_with_digit, tokens_line, line_of}
use Rattle.st_journal.specs.JournalReading.{journals_from, journals_in, Reads}
use Rattle.st_replay.specs.Replaying.{HasFewEntries, HaveFewEntries}

-- how many bytes parts have, and how many with a byte behind each
size : List (List ℕ) → ℕ
size [] = 0
size (part ∷ parts) = length part + size parts

span : List (List ℕ) → ℕ
span [] = 0
span (part ∷ parts) = (length part + 1) + span parts

-- a line of n tokens has n bytes that are not blank, and a blank between each two
span_onto : (x : ℕ) (parts : List (List ℕ)) (n : ℕ) → span parts ≡ n + 1 → span (onto_first x parts) ≡ suc n + 1
unfolding span
span_onto x [] n is = absurd (omega (arith, is))
span_onto x (part ∷ parts) n is = omega (arith, is)

split_span : (line : List ℕ) → span (slice_split is_blank line) ≡ length line + 1
unfolding span
split_span [] = refl
split_span (x ∷ xs) = by_blank (is_blank x) (split_span xs)
  where
    by_blank : (blank : Bool) → span (slice_split is_blank xs) ≡ length xs + 1 → span (cond blank ([] ∷ slice_split is_blank xs) (onto_first x (slice_split is_blank xs))) ≡ suc (length xs) + 1
    by_blank true is = omega (arith, is)
    by_blank false is = span_onto x (slice_split is_blank xs) (length xs) is

filled_span : (parts : List (List ℕ)) → 2 * length (filter is_filled parts) ≤ span parts
unfolding span
filled_span [] = omega arith
filled_span ([] ∷ parts) = omega (arith, filled_span parts)
filled_span ((x ∷ part) ∷ parts) = omega (arith, filled_span parts)

tokens_fit : (line : List ℕ) → 2 * length (tokens_of line) ≤ length line + 1
tokens_fit line = omega (arith, filled_span (slice_split is_blank line), split_span line)

-- the lines of a text have no more bytes than the text
size_onto : (x : ℕ) (parts : List (List ℕ)) → size (onto_first x parts) ≡ suc (size parts)
unfolding size
size_onto x [] = refl
size_onto x (part ∷ parts) = omega arith

raw_size : (bytes : List ℕ) → size (raw_lines bytes) ≤ length bytes
unfolding size
raw_size [] = omega arith
raw_size (b ∷ bs) = by_feed (is_line_feed b) (raw_size bs)
  where
    by_feed : (feed : Bool) → size (raw_lines bs) ≤ length bs → size (cond feed ([] ∷ raw_lines bs) (onto_first b (raw_lines bs))) ≤ suc (length bs)
    by_feed true is = omega (arith, is)
    by_feed false is = omega (arith, is, size_onto b (raw_lines bs))

cr_size : (line : List ℕ) → length (without_cr line) ≤ length line
cr_size [] = omega arith
cr_size (b ∷ []) = by_cr (nat_eq b 13)
  where
    by_cr : (cr : Bool) → length (cond cr [] (b ∷ [])) ≤ 1
    by_cr true = omega arith
    by_cr false = omega arith
cr_size (b ∷ c ∷ bs) = omega (arith, cr_size (c ∷ bs))

crs_size : (lines : List (List ℕ)) → size (map without_cr lines) ≤ size lines
unfolding size
crs_size [] = omega arith
crs_size (line ∷ lines) = omega (arith, crs_size lines, cr_size line)

lines_size : (bytes : List ℕ) → size (lines_of bytes) ≤ length bytes
lines_size bytes = omega (arith, crs_size (raw_lines bytes), raw_size bytes)

-- journals that are written in so many bytes, at seven for each entry
abbrev AreShort : ℕ → List Journal → Type 0
AreShort n journals = AllByRecursion (λ (journal : Journal). 7 * length journal.entries ≤ n) journals

abbrev IsBegunShort : ℕ → Option (List Entry) → Type 0
IsBegunShort n None = Unit {0}
IsBegunShort n (Some entries) = 7 * length entries ≤ n

record IsShort (n : ℕ) (d : JournalDraft) : Type 0 where
  ended : AreShort n d.ended
  begun : IsBegunShort n d.begun

short_more : (n k : ℕ) (journals : List Journal) → n ≤ k → AreShort n journals → AreShort k journals
short_more n k [] low are = tt
short_more n k (journal ∷ journals) low are = (omega (arith, low, are.0), short_more n k journals low are.1)

begun_more : (n k : ℕ) (begun : Option (List Entry)) → n ≤ k → IsBegunShort n begun → IsBegunShort k begun
begun_more n k None low is = tt
begun_more n k (Some entries) low is = omega (arith, low, is)

draft_more : (n k : ℕ) (d : JournalDraft) → n ≤ k → IsShort n d → IsShort k d
draft_more n k d low is = record { ended = short_more n k d.ended low is.ended; begun = begun_more n k d.begun low is.begun }

short_both : (n : ℕ) (xs ys : List Journal) → AreShort n xs → AreShort n ys → AreShort n (xs ++ ys)
short_both n [] ys a b = b
short_both n (x ∷ xs) ys a b = (a.0, short_both n xs ys a.1 b)

empty_short : (n first count : ℕ) → AreShort n (empty_journals first count)
empty_short n first zero = tt
empty_short n first (suc more) = (omega arith, empty_short n (first + 1) more)

ended_short : (n : ℕ) (journals : List Journal) (begun : Option (List Entry)) → AreShort n journals → IsBegunShort n begun → AreShort n (ended_with journals begun)
ended_short n journals None are is = are
ended_short n journals (Some entries) are is = short_both n journals (record { group = length journals; entries = entries } ∷ []) are (is, tt)

filled_short : (n count : ℕ) (journals : List Journal) → AreShort n journals → AreShort n (filled count journals)
filled_short n count journals are = short_both n journals (empty_journals (length journals) (count - length journals)) are (empty_short n (length journals) (count - length journals))

-- a line that begins a journal adds no entry
journal_short : (n : ℕ) (d next : JournalDraft) (args : List (List ℕ)) → IsShort n d → journal_line d args ≡ Ok next → IsShort n next
unfolding journal_line
journal_short n d next args s is =
    let word = came_from (one_of args) _ next is in
    let group = came_from (known_name_in (group_names d.groups) word.0) _ next word.2 in
    let later = refused (nat_lt group.0 (length (journals_of d))) (Ok (with_journal d group.0)) next kinds.Twice group.2 in
    let made : with_journal d group.0 ≡ next = cc in
    subst (IsShort n) made (record { ended = filled_short n group.0 (journals_of d) (ended_short n d.ended d.begun s.ended s.begun); begun = omega arith })

-- an entry has four tokens at least
cut_long : (tokens : List (List ℕ)) (p : List (List ℕ) × List (List ℕ)) → cut_at_colon tokens ≡ Some p → length tokens ≡ length p.0 + (1 + length p.1)
cut_long [] p is = absurd (cc)
cut_long (token ∷ tokens) p is = by_mark (bytes_eq token reply_mark) (cut_at_colon tokens) (cut_long tokens) is
  where
    by_mark : (mark : Bool) (rest : Option (List (List ℕ) × List (List ℕ))) → ((q : List (List ℕ) × List (List ℕ)) → rest ≡ Some q → length tokens ≡ length q.0 + (1 + length q.1))
        → cond mark (Some ([], tokens)) (option_map (λ (q : List (List ℕ) × List (List ℕ)). (token ∷ q.0, q.1)) rest) ≡ Some p → suc (length tokens) ≡ length p.0 + (1 + length p.1)
    by_mark true rest long e =
        let first : [] ≡ p.0 = cc in
        let last : tokens ≡ p.1 = cc in
        omega (arith, ap length first, ap length last)
    by_mark false None long e = absurd (cc)
    by_mark false (Some q) long e =
        let here = long q refl in
        let first : token ∷ q.0 ≡ p.0 = cc in
        let last : q.1 ≡ p.1 = cc in
        omega (arith, here, ap length first, ap length last)

has_some : (part : List (List ℕ)) → has_event_count part ≡ true → 1 ≤ length part
has_some [] is = absurd (cc)
has_some (word ∷ args) is = omega arith

has_reply : (part : List (List ℕ)) → has_reply_count part ≡ true → 1 ≤ length part
has_reply [] is = absurd (cc)
has_reply (word ∷ args) is = omega arith

parts_long : (tokens : List (List ℕ)) (p : List (List ℕ) × List (List ℕ)) → parts_of tokens ≡ Ok p → 3 ≤ length tokens
unfolding parts_of
parts_long tokens p is =
    let cut = came_from (ok_or (cut_at_colon tokens) kinds.Count) _ p is in
    let counts = (chose (has_event_count cut.0.0 && has_reply_count cut.0.1) cut.0 p kinds.Count cut.2).0 in
    let each = both (has_event_count cut.0.0) (has_reply_count cut.0.1) counts in
    let long = cut_long tokens cut.0 (was_some (cut_at_colon tokens) cut.0 kinds.Count cut.1) in
    omega (arith, long, has_some cut.0.0 each.0, has_reply cut.0.1 each.1)

entry_long : (g : Group) (apps : List (List ℕ)) (n : ℕ) (number : List ℕ) (tokens : List (List ℕ)) (entry : Entry) → entry_of g apps n number tokens ≡ Ok entry → 3 ≤ length tokens
unfolding entry_of
entry_long g apps n number tokens entry is =
    let parts = came_from (parts_of tokens) _ entry is in
    parts_long tokens parts.0 parts.1

begun_one : (n k : ℕ) (begun : Option (List Entry)) (entry : Entry) → n + 7 ≤ k → IsBegunShort n begun → IsBegunShort k (option_map (λ (es : List Entry). es ++ entry ∷ []) begun)
begun_one n k None entry low is = tt
begun_one n k (Some entries) entry low is = omega (arith, low, is, length-append entries (entry ∷ []))

entry_short : (n m : ℕ) (d next : JournalDraft) (number : List ℕ) (args : List (List ℕ)) → IsShort n d → 2 * suc (length args) ≤ m + 1 → entry_line d number args ≡ Ok next → IsShort (n + m) next
unfolding entry_line entry_in
entry_short n m d next number args s room is =
    let entry = came_from (entry_in d number args) _ next is in
    let entries = came_from (ok_or d.begun kinds.Word) _ entry.0 entry.1 in
    let g = came_from (ok_or (slice_get d.groups (length d.ended)) kinds.Word) _ entry.0 entries.2 in
    let long = entry_long g.0 d.apps (length entries.0 + 1) number args entry.0 g.2 in
    let made : with_entry d entry.0 ≡ next = cc in
    subst (IsShort (n + m)) made (record { ended = short_more n (n + m) d.ended (omega arith) s.ended; begun = begun_one n (n + m) d.begun entry.0 (omega (arith, long, room)) s.begun })

tokens_short : (n m : ℕ) (d next : JournalDraft) (tokens : List (List ℕ)) → IsShort n d → 2 * length tokens ≤ m + 1 → tokens_line d tokens ≡ Ok next → IsShort (n + m) next
tokens_short n m d next [] s room is = let same : d ≡ next = cc in subst (IsShort (n + m)) same (draft_more n (n + m) d (omega arith) s)
tokens_short n m d next (word ∷ args) s room is = by_test (is_comment word) (bytes_eq word (codes "journal")) (begins_with_digit word) is
  where
    by_test : (skipped begins digit : Bool) → cond skipped (Ok d) (cond begins (journal_line d args) (cond digit (entry_line d word args) (Err kinds.Word))) ≡ Ok next → IsShort (n + m) next
    by_test true begins digit e = let same : d ≡ next = cc in subst (IsShort (n + m)) same (draft_more n (n + m) d (omega arith) s)
    by_test false true digit e = draft_more n (n + m) next (omega arith) (journal_short n d next args s e)
    by_test false false true e = entry_short n m d next word args s room e
    by_test false false false e = absurd (cc)

line_short : (n : ℕ) (d next : JournalDraft) (line : List ℕ) → IsShort n d → line_of d line ≡ Ok next → IsShort (n + length line) next
unfolding line_of
line_short n d next line s is = tokens_short n (length line) d next (tokens_of line) s (tokens_fit line) (chosen (has_allowed_bytes line) (tokens_line d (tokens_of line)) next kinds.Byte is).1

was_good : (n : ℕ) (r : Result JournalDraft FaultKind) (x : JournalDraft) → on_line n r ≡ Ok x → r ≡ Ok x
was_good n (Ok y) x e = let same : y ≡ x = cc in ap Ok same
was_good n (Err kind) x e = absurd (cc)

lines_short : (lines : List (List ℕ)) (n k : ℕ) (d last : JournalDraft) → IsShort k d → read_on line_of d n lines ≡ Ok last → IsShort (k + size lines) last
unfolding size
lines_short [] n k d last s is = let same : d ≡ last = cc in subst (IsShort (k + 0)) same (draft_more k (k + 0) d (omega arith) s)
lines_short (line ∷ lines) n k d last s is =
    let next = came_from (on_line n (line_of d line)) _ last is in
    let here = line_short k d next.0 line s (was_good n (line_of d line) next.0 next.1) in
    draft_more ((k + length line) + size lines) (k + (length line + size lines)) last (omega arith) (lines_short lines (n + 1) (k + length line) next.0 last here next.2)

few_of : (n : ℕ) (journals : List Journal) → n ≤ MAX_BYTES → AreShort n journals → AllByRecursion HasFewEntries journals
few_of n [] low are = tt
few_of n (journal ∷ journals) low are = (omega (arith, low, are.0), few_of n journals low are.1)

few_by : (groups : List Group) (apps lines : List (List ℕ)) (first n : ℕ) (read : Result JournalDraft LineFault) (answer : JournalsRead) → size lines ≤ n → n ≤ MAX_BYTES → read_on line_of (nothing groups apps) first lines ≡ read
    → Reads answer (journals_from groups read) → HaveFewEntries answer
few_by groups apps lines first n (Ok d) (reads.Journals journals) fits low was is =
    let start : IsShort 0 (nothing groups apps) = record { ended = tt; begun = tt } in
    let short = draft_more (0 + size lines) n d (omega (arith, fits)) (lines_short lines first 0 (nothing groups apps) d start was) in
    let same : filled (length groups) (journals_of d) ≡ journals = cc in
    All-from_recursion HasFewEntries journals (few_of n journals low (subst (AreShort n) same (filled_short n (length groups) (journals_of d) (ended_short n d.ended d.begun short.ended short.begun))))
few_by groups apps lines first n (Err fault) (reads.Journals journals) fits low was is = absurd (cc)
few_by groups apps lines first n read (reads.Fault line kind) fits low was is = tt

-- so each journal that is read of a text has few entries
pub few_entries : (groups : List Group) (apps : List (List ℕ)) (first : ℕ) (bytes : List ℕ) (answer : JournalsRead) → length bytes ≤ MAX_BYTES → Reads answer (journals_in groups apps first bytes) → HaveFewEntries answer
few_entries groups apps first bytes answer low is = few_by groups apps (lines_of bytes) first (length bytes) (read_on line_of (nothing groups apps) first (lines_of bytes)) answer (lines_size bytes) low refl is

take_short : (n : ℕ) (bytes : List ℕ) → length (take n bytes) ≤ length bytes
take_short zero bytes = omega arith
take_short (suc n) [] = omega arith
take_short (suc n) (b ∷ bytes) = omega (arith, take_short n bytes)

drop_short : (n : ℕ) (bytes : List ℕ) → length (drop n bytes) ≤ length bytes
drop_short zero bytes = omega arith
drop_short (suc n) [] = omega arith
drop_short (suc n) (b ∷ bytes) = omega (arith, drop_short n bytes)

-- and so has each that is read of a part of it
pub few_behind : (groups : List Group) (apps : List (List ℕ)) (first n at : ℕ) (bytes : List ℕ) (answer : JournalsRead) → length bytes ≤ MAX_BYTES → Reads answer (journals_in groups apps first (take n (drop at bytes))) → HaveFewEntries answer
few_behind groups apps first n at bytes answer low is = few_entries groups apps first (take n (drop at bytes)) answer (omega (arith, low, take_short n (drop at bytes), drop_short at bytes)) is

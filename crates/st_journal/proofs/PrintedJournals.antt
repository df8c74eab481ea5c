-- The lines of journals are read as the journals.
use Rattle.std.proofs.Common.{◌≡◌, ℕ, zero, suc, ◌+◌, ◌-◌, ◌<◌, ◌≤◌, List, [], ◌∷◌, ◌++◌, length, map, refl, ap, sym, ◌∙◌, subst, append_assoc, arith}
use Rattle.std.specs.Prelude.{true, false, nat_lt, ◌^◌, slice_get, slice_index_or, Option, Some, Ok, bytes_eq, codes, decimal}
use Rattle.std.specs.List.{AllByRecursion}
use Rattle.std.specs.Str.{all_ascii_digits}
use Rattle.std.specs.Char.{is_ascii_digit}
use Rattle.std.proofs.lemmas.Fmt.{digits_decimal, decimal_nonempty}
use Rattle.std.proofs.lemmas.List.{append-nil, length-append, length-map}
use Rattle.std.proofs.lemmas.Bool.Decides.{nat_tests}
use Rattle.std.proofs.lemmas.Slice.Eq.{bytes_eq-Decides}
use Rattle.st_text.specs.Numbers.{number_of}
use Rattle.st_text.specs.Words.{IsWord, line_text}
use Rattle.st_text.proofs.NumberLemmas.{numbers_again, numerals}
use Rattle.st_text.proofs.WordLemmas.{words_allowed, words_cut_again}
use Rattle.st_net.proofs.Tests.{both}
use Rattle.st_net.specs.Groups.{Group, IsSound}
use Rattle.st_event.specs.declared.journal.Entry.{Entry}
use Rattle.st_event.specs.declared.journal.Journal.{Journal}
use Rattle.st_token.specs.Spelling.{known_name_in, is_comment}
use Rattle.st_token.specs.Reading.{read_on}
use Rattle.st_token.proofs.PrintedTokens.{name_word, literal}
use Rattle.st_entry.specs.Words.{Words}
use Rattle.st_entry.specs.Keywords.{reply_mark}
use Rattle.st_entry.specs.Entries.{event_words, reply_words}
use Rattle.st_journal.specs.EntryReading.{entry_of}
use Rattle.st_journal.specs.JournalLines.{JournalDraft, empty_journals, filled, ended_with, group_names, journal_line, entry_in, entry_line, begins_with_digit, tokens_line, line_of}
use Rattle.st_journal.specs.Printing.{entries_lines, journal_lines}
use Rattle.st_journal.specs.ReadingBack.{AreNames}
use Rattle.st_journal.proofs.PrintedNames.{name_again}
use Rattle.st_journal.proofs.PrintedEvents.{untrue}
use Rattle.st_journal.proofs.PrintedEntries.{IsReadable, entry_again, entry_is_words}

-- a printed number begins with a digit, and is no other word
digit_first : (token : List ℕ) → all_ascii_digits token ≡ true → 0 < length token → begins_with_digit token ≡ true
digit_first [] digits some = absurd (omega arith)
digit_first (b ∷ bs) digits some = (both (is_ascii_digit b) (all_ascii_digits bs) digits).0

no_comment : (token : List ℕ) → begins_with_digit token ≡ true → is_comment token ≡ false
no_comment [] digit = refl
no_comment (b ∷ bs) digit = grind (arith, nat_tests)

number_begins : (n : ℕ) → n < 2 ^ 32 → begins_with_digit (decimal n) ≡ true
number_begins n less = digit_first (decimal n) (digits_decimal numerals n (omega arith)) (decimal_nonempty n (omega arith))

no_keyword : (n : ℕ) → n < 2 ^ 32 → bytes_eq (decimal n) (codes "journal") ≡ false
no_keyword n less = untrue (bytes_eq (decimal n) (codes "journal")) (λ e. let same : number_of (codes "journal") ≡ Some n = sym (ap number_of ((bytes_eq-Decides (decimal n) (codes "journal")).0 e)) ∙ numbers_again n less in absurd cc)

at_least : (m n : ℕ) → n ≤ m → nat_lt m n ≡ false
at_least m n low = grind (arith, nat_tests)

-- a line of words is read by its words
line_again : (d : JournalDraft) (words : Words) → AllByRecursion IsWord words → line_of d (line_text words) ≡ tokens_line d words
unfolding line_of
line_again d words all = rw (words_allowed words all, words_cut_again words all) refl

-- lines of words, one after another, add to one draft what makes another
abbrev pub Adds : JournalDraft → List Words → JournalDraft → Type 0
Adds d [] e = d ≡ e
Adds d (words ∷ lines) e = (next : JournalDraft) × (tokens_line d words ≡ Ok next) × Adds next lines e

pub adds_both : (d : JournalDraft) (xs : List Words) (m : JournalDraft) (ys : List Words) (e : JournalDraft) → Adds d xs m → Adds m ys e → Adds d (xs ++ ys) e
adds_both d [] m ys e a b = subst (λ (x : JournalDraft). Adds x ys e) (sym a) b
adds_both d (words ∷ xs) m ys e a b = (a.0, a.1, adds_both a.0 xs m ys e a.2 b)

pub read_by : (lines : List Words) (d e : JournalDraft) (n : ℕ) → AllByRecursion (AllByRecursion IsWord) lines → Adds d lines e → read_on line_of d n (map line_text lines) ≡ Ok e
read_by [] d e n all a = ap Ok a
read_by (words ∷ lines) d e n all a = rw (line_again d words all.0, a.1) (read_by lines a.0 e (n + 1) all.1 a.2)

abbrev pub draft : List Group → List (List ℕ) → List Journal → Option (List Entry) → JournalDraft
draft groups apps ended begun = record { groups = groups; apps = apps; ended = ended; begun = begun }

-- entries that can be read, of which the first has number n
abbrev pub AreReadable : Group → List (List ℕ) → ℕ → List Entry → Type 0
AreReadable g apps n [] = Unit {0}
AreReadable g apps n (entry ∷ entries) = IsReadable g apps n entry × AreReadable g apps (n + 1) entries

module _ (groups : List Group) (apps : List (List ℕ)) (are : AreNames apps) where
  entry_adds : (ended : List Journal) (front : List Entry) (g : Group) (n : ℕ) (args : Words) (entry : Entry) → slice_get groups (length ended) ≡ Some g → n < 2 ^ 32 → entry_of g apps (length front + 1) (decimal n) args ≡ Ok entry
      → tokens_line (draft groups apps ended (Some front)) (decimal n ∷ args) ≡ Ok (draft groups apps ended (Some (front ++ entry ∷ [])))
  unfolding entry_line entry_in
  entry_adds ended front g n args entry at less again = rw (no_comment (decimal n) (number_begins n less), no_keyword n less, number_begins n less, at, again) refl

  entries_add : (ended : List Journal) (front : List Entry) (g : Group) (n : ℕ) (entries : List Entry) → IsSound g → slice_get groups (length ended) ≡ Some g → n ≡ length front + 1 → n + length entries ≤ 2 ^ 32 → AreReadable g apps n entries
      → Adds (draft groups apps ended (Some front)) (entries_lines g apps n entries) (draft groups apps ended (Some (front ++ entries)))
  entries_add ended front g n [] sound at count few all = ap (λ (es : List Entry). draft groups apps ended (Some es)) (sym (append-nil front))
  entries_add ended front g n (entry ∷ entries) sound at count few all =
      let less : n < 2 ^ 32 = omega arith in
      let again = subst (λ (m : ℕ). entry_of g apps m (decimal n) (event_words g apps entry.event ++ reply_mark ∷ reply_words g apps entry.reply) ≡ Ok entry) count (entry_again g apps n entry sound are less all.0) in
      let next : n + 1 ≡ length (front ++ entry ∷ []) + 1 = omega (arith, length-append front (entry ∷ [])) in (
        draft groups apps ended (Some (front ++ entry ∷ [])),
        entry_adds ended front g n (event_words g apps entry.event ++ reply_mark ∷ reply_words g apps entry.reply) entry at less again,
        subst (λ (es : List Entry). Adds (draft groups apps ended (Some (front ++ entry ∷ []))) (entries_lines g apps (n + 1) entries) (draft groups apps ended (Some es))) (append_assoc front (entry ∷ []) entries)
            (entries_add ended (front ++ entry ∷ []) g (n + 1) entries sound at next (omega arith) all.1),
      )

  entries_are_words : (g : Group) (n : ℕ) (entries : List Entry) → IsSound g → n + length entries ≤ 2 ^ 32 → AreReadable g apps n entries → AllByRecursion (AllByRecursion IsWord) (entries_lines g apps n entries)
  entries_are_words g n [] sound few all = tt
  entries_are_words g n (entry ∷ entries) sound few all = (entry_is_words g apps n entry sound are (omega arith) all.0, entries_are_words g (n + 1) entries sound (omega arith) all.1)

  -- a journal begins, and those of the groups before it that have none are empty
  begins : (ended : List Journal) (begun : Option (List Entry)) (name : List ℕ) (k : ℕ) → known_name_in (group_names groups) name ≡ Ok k → length (ended_with ended begun) ≤ k
      → tokens_line (draft groups apps ended begun) (codes "journal" ∷ name ∷ []) ≡ Ok (draft groups apps (filled k (ended_with ended begun)) (Some []))
  unfolding journal_line
  begins ended begun name k known low = rw (known, at_least k (length (ended_with ended begun)) low) refl

long_empty : (n k : ℕ) → length (empty_journals n k) ≡ k
long_empty n zero = refl
long_empty n (suc k) = ap suc (long_empty (n + 1) k)

pub long_filled : (k : ℕ) (journals : List Journal) → length journals ≤ k → length (filled k journals) ≡ k
long_filled k journals low = omega (arith, length-append journals (empty_journals (length journals) (k - length journals)), long_empty (length journals) (k - length journals))

-- a group by its number
named_at : (groups : List Group) (k : ℕ) (g : Group) → slice_get groups k ≡ Some g → (k < length groups) × (slice_index_or (group_names groups) k [] ≡ g.name)
named_at [] k g at = absurd cc
named_at (h ∷ groups) zero g at = let same : h ≡ g = cc in (omega arith, ap (λ (x : Group). x.name) same)
named_at (h ∷ groups) (suc k) g at = let rest = named_at groups k g at in (omega (arith, rest.0), rest.1)

pub sound_at : (groups : List Group) (k : ℕ) (g : Group) → AllByRecursion IsSound groups → slice_get groups k ≡ Some g → IsSound g
sound_at [] k g all at = absurd cc
sound_at (h ∷ groups) zero g all at = let same : h ≡ g = cc in subst IsSound same all.0
sound_at (h ∷ groups) (suc k) g all at = sound_at groups k g all.1 at

module _ (groups : List Group) (apps : List (List ℕ)) (are : AreNames apps) (names : AreNames (group_names groups)) (sound : AllByRecursion IsSound groups) where
  pub journal_adds : (ended : List Journal) (begun : Option (List Entry)) (k : ℕ) (g : Group) (entries : List Entry) → slice_get groups k ≡ Some g → length (ended_with ended begun) ≤ k → 1 + length entries ≤ 2 ^ 32 → AreReadable g apps 1 entries
      → Adds (draft groups apps ended begun) (journal_lines g apps entries) (draft groups apps (filled k (ended_with ended begun)) (Some entries))
  journal_adds ended begun k g entries at low few all =
      let own = named_at groups k g at in
      let long : length (group_names groups) ≡ length groups = length-map groups (λ (g : Group). g.name) in
      let known : known_name_in (group_names groups) g.name ≡ Ok k = subst (λ (name : List ℕ). known_name_in (group_names groups) name ≡ Ok k) own.1 (name_again (group_names groups) k names (omega (arith, long, own.0))) in
      let here : slice_get groups (length (filled k (ended_with ended begun))) ≡ Some g = subst (λ (m : ℕ). slice_get groups m ≡ Some g) (sym (long_filled k (ended_with ended begun) low)) at in (
        draft groups apps (filled k (ended_with ended begun)) (Some []),
        begins groups apps are ended begun g.name k known low,
        entries_add groups apps are (filled k (ended_with ended begun)) [] g 1 entries (sound_at groups k g sound at) here refl few all,
      )

  pub journal_is_words : (k : ℕ) (g : Group) (entries : List Entry) → slice_get groups k ≡ Some g → 1 + length entries ≤ 2 ^ 32 → AreReadable g apps 1 entries → AllByRecursion (AllByRecursion IsWord) (journal_lines g apps entries)
  journal_is_words k g entries at few all =
      let s = sound_at groups k g sound at in
      ((literal (codes "journal") refl refl, (name_word g.name s.name, tt)), entries_are_words groups apps are g 1 entries s few all)

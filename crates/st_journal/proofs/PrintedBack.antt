-- Legal journals that are printed are read back.
use Rattle.std.proofs.Common.{◌≡◌, ℕ, ◌+◌, ◌-◌, ◌≤◌, List, [], ◌∷◌, ◌++◌, length, reverse, refl, ap, sym, ◌∙◌, subst, append_assoc, arith}
use Rattle.std.specs.Prelude.{◌^◌, slice_get, Option, Some, None, Ok}
use Rattle.std.specs.List.{AllByRecursion}
use Rattle.std.proofs.lemmas.List.{append-nil, reverse-append, length-append, length-reverse}
use Rattle.std.proofs.lemmas.List.Elements.{recursion_from_All}
use Rattle.st_text.specs.Words.{IsWord, text_of}
use Rattle.st_text.proofs.WordLemmas.{word_lines_cut_again}
use Rattle.st_net.specs.Groups.{Group, IsSound}
use Rattle.st_event.specs.declared.journal.Entry.{Entry}
use Rattle.st_event.specs.declared.journal.Journal.{Journal}
use Rattle.st_event.specs.Legal.{IsLegal, IsNext}
use Rattle.st_event.proofs.Accepting.{legal_within}
use Rattle.st_entry.specs.Words.{Words}
use Rattle.st_journal.specs.JournalLines.{JournalDraft, nothing, empty_journals, filled, ended_with, journals_of}
use Rattle.st_journal.specs.JournalReading.{journals_in}
use Rattle.st_journal.specs.Printing.{journal_lines}
use Rattle.st_journal.specs.ReadingBack.{AreNames, AreTopologies, IsByApp, IsAsked, IsJournalAmong, AreInOrder, lines_where, journals_lines, journals_text, gathered, JournalsPrintBack, JournalPrintsBack, AreNumbered, EachPrintsBack}
use Rattle.st_event.proofs.Begun.{legal_begun}
use Rattle.st_journal.proofs.PrintedEntries.{IsReadable}
use Rattle.st_journal.proofs.PrintedJournals.{AreReadable, Adds, adds_both, draft, read_by, long_filled, sound_at, journal_adds, journal_is_words}
use Rattle.st_journal.proofs.LegalReplies.{IsAnswer, answers}

-- an entry of a legal journal can be read
readable_at : (g : Group) (apps : List (List ℕ)) (past : List Entry) (entry : Entry) → IsSound g → IsNext g past entry → IsLegal g past → AllByRecursion (λ (entry : Entry). IsByApp apps entry.event) past → IsAsked apps entry → IsReadable g apps (length past + 1) entry
readable_at g apps past entry sound next legal asked is =
    let answer = subst (IsAnswer g apps (length past + 1) entry.event) (sym next.answer) (answers g apps past sound legal next.room asked entry.event next.fits) in
    record {
      event = record { fits = next.fits; app = is.app; number = is.number };
      reply = answer.fits;
      own = answer.own;
      taken = answer.taken;
    }

-- and so can all, of which these stand before
readable : (g : Group) (apps : List (List ℕ)) (past entries : List Entry) → IsSound g → IsLegal g (reverse entries ++ past) → AllByRecursion (λ (entry : Entry). IsByApp apps entry.event) past → AllByRecursion (IsAsked apps) entries → AreReadable g apps (length past + 1) entries
readable g apps past [] sound legal asked all = tt
readable g apps past (entry ∷ entries) sound legal asked all =
    let turned : reverse (entry ∷ entries) ++ past ≡ reverse entries ++ (entry ∷ past) = ap (λ (es : List Entry). es ++ past) (reverse-append (entry ∷ []) entries) ∙ append_assoc (reverse entries) (entry ∷ []) past in
    let more : IsLegal g (reverse entries ++ (entry ∷ past)) = subst (IsLegal g) turned legal in
    let here : IsLegal g (entry ∷ past) = legal_begun g (reverse entries) (entry ∷ past) more in
    let next : length (entry ∷ past) + 1 ≡ length past + 1 + 1 = omega arith in
    (readable_at g apps past entry sound here.0 here.1 asked all.0, subst (λ (n : ℕ). AreReadable g apps n entries) next (readable g apps (entry ∷ past) entries sound more (all.0.app, asked) all.1))

pub legal_readable : (g : Group) (apps : List (List ℕ)) (entries : List Entry) → IsSound g → IsLegal g (reverse entries) → AllByRecursion (IsAsked apps) entries → AreReadable g apps 1 entries
legal_readable g apps entries sound legal all = readable g apps [] entries sound (subst (IsLegal g) (sym (append-nil (reverse entries))) legal) tt all

few_entries : (g : Group) (entries : List Entry) → IsLegal g (reverse entries) → 1 + length entries ≤ 2 ^ 32
few_entries g entries legal = omega (arith, legal_within g (reverse entries) legal, length-reverse entries)

-- what lines of journals add
pub record AddsAll (groups : List Group) (apps : List (List ℕ)) (d : JournalDraft) (lines : List Words) (journals : List Journal) : Type 0 where
  pub end : JournalDraft
  pub adds : Adds d lines end
  pub words : AllByRecursion (AllByRecursion IsWord) lines
  pub are : journals_of end ≡ journals

words_behind : (xs ys : List Words) → AllByRecursion (AllByRecursion IsWord) xs → AllByRecursion (AllByRecursion IsWord) ys → AllByRecursion (AllByRecursion IsWord) (xs ++ ys)
words_behind [] ys a b = b
words_behind (x ∷ xs) ys a b = (a.0, words_behind xs ys a.1 b)

module _ (groups : List Group) (apps : List (List ℕ)) (are : AreNames apps) (topos : AreTopologies groups) where
  sound_all : AllByRecursion IsSound groups
  sound_all = recursion_from_All IsSound groups topos.sound

  own_number : (ended : List Journal) (k : ℕ) (entries : List Entry) → length ended ≡ k → ended_with ended (Some entries) ≡ ended ++ record { group = k; entries = entries } ∷ []
  own_number ended k entries long = ap (λ (n : ℕ). ended ++ record { group = n; entries = entries } ∷ []) long

  all_add : (ended : List Journal) (begun : Option (List Entry)) (n : ℕ) (journals : List Journal) → length (ended_with ended begun) ≤ n → AreInOrder groups apps n journals
      → AddsAll groups apps (draft groups apps ended begun) (journals_lines groups apps journals) (gathered (ended_with ended begun) journals)
  all_add ended begun n [] low order = record { end = draft groups apps ended begun; adds = refl; words = tt; are = refl }
  all_add ended begun n (journal ∷ journals) low order =
      let is = order.1 in
      let g = is.group in
      let k = journal.group in
      let before = ended_with ended begun in
      let sound = sound_at groups k g sound_all is.at in
      let can = legal_readable g apps journal.entries sound is.legal (recursion_from_All (IsAsked apps) journal.entries is.asked) in
      let few = few_entries g journal.entries is.legal in
      let below : length before ≤ k = omega (arith, order.0) in
      let long : length (filled k before) ≡ k = long_filled k before below in
      let own : ended_with (filled k before) (Some journal.entries) ≡ filled k before ++ journal ∷ [] = own_number (filled k before) k journal.entries long in
      let next_low : length (ended_with (filled k before) (Some journal.entries)) ≤ k + 1 = omega (arith, ap length own, length-append (filled k before) (journal ∷ []), long) in
      let rest = all_add (filled k before) (Some journal.entries) (k + 1) journals next_low order.2 in
      let here : lines_where apps journal.entries (slice_get groups k) ≡ journal_lines g apps journal.entries = ap (lines_where apps journal.entries) is.at in
      let first = journal_adds groups apps are topos.names sound_all ended begun k g journal.entries is.at below few can in
      let lines : journal_lines g apps journal.entries ++ journals_lines groups apps journals ≡ journals_lines groups apps (journal ∷ journals) = ap (λ (ls : List Words). ls ++ journals_lines groups apps journals) (sym here) in
      record {
        end = rest.end;
        adds = subst (λ (ls : List Words). Adds (draft groups apps ended begun) ls rest.end) lines (adds_both (draft groups apps ended begun) (journal_lines g apps journal.entries) (draft groups apps (filled k before) (Some journal.entries)) (journals_lines groups apps journals) rest.end first rest.adds);
        words = subst (AllByRecursion (AllByRecursion IsWord)) lines (words_behind (journal_lines g apps journal.entries) (journals_lines groups apps journals) (journal_is_words groups apps are topos.names sound_all k g journal.entries is.at few can) rest.words);
        are = rest.are ∙ ap (λ (js : List Journal). gathered js journals) own;
      }

  all_again : (first : ℕ) (journals : List Journal) → AreInOrder groups apps 0 journals → journals_in groups apps first (journals_text groups apps journals) ≡ Ok (filled (length groups) (gathered [] journals))
  all_again first journals order =
      let all = all_add [] None 0 journals (omega arith) order in
      rw (word_lines_cut_again (journals_lines groups apps journals) all.words, read_by (journals_lines groups apps journals) (nothing groups apps) all.end first all.words all.adds, all.are) refl

pub journals_print_back : JournalsPrintBack
journals_print_back groups apps first journals topos are order = all_again groups apps are topos first journals order

pub journal_prints_back : JournalPrintsBack
journal_prints_back groups apps first g journal topos are at legal asked =
    let order : AreInOrder groups apps 0 (journal ∷ []) = (omega arith, record { group = g; at = at; legal = legal; asked = asked }, tt) in
    let lines : journals_lines groups apps (journal ∷ []) ≡ journal_lines g apps journal.entries = append-nil (lines_where apps journal.entries (slice_get groups journal.group)) ∙ ap (lines_where apps journal.entries) at in
    subst (λ (ls : List Words). journals_in groups apps first (text_of ls) ≡ Ok (filled (length groups) (filled journal.group [] ++ journal ∷ []))) lines (journals_print_back groups apps first (journal ∷ []) topos are order)

-- where each group has its journal, none is empty between
nothing_between : (front : List Journal) (k : ℕ) → k ≡ length front → filled k front ≡ front
nothing_between front k same =
    let none : k - length front ≡ 0 = omega arith in
    ap (λ (n : ℕ). front ++ empty_journals (length front) n) none ∙ append-nil front

each_gathered : (front journals : List Journal) → AreNumbered (length front) journals → gathered front journals ≡ front ++ journals
each_gathered front [] numbered = sym (append-nil front)
each_gathered front (journal ∷ journals) numbered =
    let long : length (front ++ journal ∷ []) ≡ length front + 1 = length-append front (journal ∷ []) in
    ap (λ (js : List Journal). gathered (js ++ journal ∷ []) journals) (nothing_between front journal.group numbered.0)
    ∙ (each_gathered (front ++ journal ∷ []) journals (subst (λ (n : ℕ). AreNumbered n journals) (sym long) numbered.1) ∙ append_assoc front (journal ∷ []) journals)

each_in_order : (groups : List Group) (apps : List (List ℕ)) (n : ℕ) (journals : List Journal) → AreNumbered n journals → AllByRecursion (IsJournalAmong groups apps) journals → AreInOrder groups apps n journals
each_in_order groups apps n [] numbered all = tt
each_in_order groups apps n (journal ∷ journals) numbered all =
    let low : n ≤ journal.group = omega (arith, numbered.0) in
    (low, all.0, each_in_order groups apps (journal.group + 1) journals (subst (λ (m : ℕ). AreNumbered (m + 1) journals) (sym numbered.0) numbered.1) all.1)

pub each_prints_back : EachPrintsBack
each_prints_back groups apps first journals topos are numbered count all =
    let order = each_in_order groups apps 0 journals numbered (recursion_from_All (IsJournalAmong groups apps) journals all) in
    journals_print_back groups apps first journals topos are order
    ∙ ap (λ (js : List Journal). Ok (filled (length groups) js)) (each_gathered [] journals numbered)
    ∙ ap Ok (nothing_between journals (length groups) (sym count))

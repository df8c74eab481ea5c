-- The text of a journal, as its lines are added.
use Rattle.std.proofs.Common.{◌≡◌, ◌∙◌, ℕ, ◌+◌, ◌<◌, List, [], ◌∷◌, ◌++◌, length, get_or, take, refl, sym, ap, arith}
use Rattle.std.proofs.lemmas.List.{take_more, length-take-le}
use Rattle.st_text.specs.Words.{ended, line_text, text_of}
use Rattle.st_text.proofs.PrintLemmas.{IsByElement, by_append, both_added}
use Rattle.st_net.specs.Groups.{Group}
use Rattle.st_event.specs.declared.journal.Entry.{Entry}
use Rattle.st_entry.specs.Words.{Words}
use Rattle.st_entry.specs.Entries.{entry_words}
use Rattle.st_journal.specs.Printing.{entries_lines}

text_by : IsByElement text_of (λ words. ended (line_text words))
text_by = record { none = refl; more = λ words lines. refl }

-- lines behind lines
pub text_both : (first second : List Words) → text_of (first ++ second) ≡ text_of first ++ text_of second
text_both first second = by_append text_of _ text_by first second

-- one more entry
entries_more : (g : Group) (apps : List (List ℕ)) (n : ℕ) (entries : List Entry) (entry : Entry) → entries_lines g apps n (entries ++ entry ∷ []) ≡ entries_lines g apps n entries ++ entry_words g apps (n + length entries) entry ∷ []
entries_more g apps n [] entry = let same : n ≡ n + 0 = omega arith in ap (λ (k : ℕ). entry_words g apps k entry ∷ []) same
entries_more g apps n (first ∷ entries) entry =
    let same : n + 1 + length entries ≡ n + length (first ∷ entries) = omega arith in
    ap (λ (lines : List Words). entry_words g apps n first ∷ lines) (entries_more g apps (n + 1) entries entry ∙ ap (λ (k : ℕ). entries_lines g apps (n + 1) entries ++ entry_words g apps k entry ∷ []) same)

pub entry_added : (g : Group) (apps : List (List ℕ)) (entries : List Entry) (i n : ℕ) (entry : Entry) (old mid new : List ℕ) → i < length entries → entry ≡ get_or entries i entry → n ≡ i + 1
    → mid ≡ old ++ text_of (entries_lines g apps 1 (take i entries)) → new ≡ mid ++ text_of (entry_words g apps n entry ∷ []) → new ≡ old ++ text_of (entries_lines g apps 1 (take (i + 1) entries))
entry_added g apps entries i n entry old mid new low is number before added =
    let place : n ≡ 1 + length (take i entries) = omega (arith, length-take-le i entries (omega arith)) in
    let first : take (i + 1) entries ≡ take i entries ++ entry ∷ [] = take_more entries i entry low ∙ ap (λ (e : Entry). take i entries ++ e ∷ []) (sym is) in
    let lines : entries_lines g apps 1 (take (i + 1) entries) ≡ entries_lines g apps 1 (take i entries) ++ entry_words g apps n entry ∷ [] =
    ap (entries_lines g apps 1) first ∙ (entries_more g apps 1 (take i entries) entry ∙ ap (λ (k : ℕ). entries_lines g apps 1 (take i entries) ++ entry_words g apps k entry ∷ []) (sym place)) in
    both_added old mid new (text_of (entries_lines g apps 1 (take i entries))) (text_of (entry_words g apps n entry ∷ [])) before added
    ∙ ap (λ t. old ++ t) (sym (ap text_of lines ∙ text_both (entries_lines g apps 1 (take i entries)) (entry_words g apps n entry ∷ [])))

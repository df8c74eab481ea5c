-- What reading answers is what the lines give, one after another, or the first bad one; and each group has one journal, whose events fit.
use Rattle.std.proofs.Common.{◌≡◌, ℕ, zero, suc, ◌+◌, ◌-◌, ◌<◌, ◌≤◌, List, [], ◌∷◌, ◌++◌, length, cond, sym, ◌∙◌, ap, subst, refl, arith}
use Rattle.std.specs.Prelude.{Bool, true, false, MatchOption, nat_lt, Option, Some, None, option_map, Result, Ok, Err, ok_or, slice_get, bytes_eq, codes}
use Rattle.std.specs.List.{AllByRecursion}
use Rattle.std.proofs.lemmas.Bool.Decides.{nat_tests}
use Rattle.std.proofs.lemmas.List.{length-map}
use Rattle.std.proofs.lemmas.List.Elements.{All-from_recursion}
use Rattle.st_text.specs.AllowedBytes.{has_allowed_bytes}
use Rattle.st_text.specs.Tokens.{tokens_of}
use Rattle.st_text.specs.Lines.{lines_of}
use Rattle.st_net.specs.Names.{place_of}
use Rattle.st_net.specs.Groups.{Group, IsSound}
use Rattle.st_event.specs.declared.journal.Entry.{Entry}
use Rattle.st_event.specs.declared.journal.Journal.{Journal}
use Rattle.st_event.specs.Legal.{Fits}
use Rattle.st_token.specs.declared.fault.FaultKind.{FaultKind}
use Rattle.st_token.specs.declared.fault.FaultKind.TheVariants as kinds
use Rattle.st_token.specs.declared.fault.LineFault.{LineFault}
use Rattle.st_token.specs.Counts.{one_of}
use Rattle.st_token.specs.Spelling.{name_in, known_name_in, number_within, is_comment}
use Rattle.st_token.specs.Reading.{on_line, read_on, IsFirstBad, Ends}
use Rattle.st_token.proofs.FirstBad.{Explains, explained}
use Rattle.st_token.proofs.ReadTokens.{came_from, chose, chosen, refused, was_some, place_below}
use Rattle.st_journal.specs.declared.reading.JournalsRead.{JournalsRead}
use Rattle.st_journal.specs.declared.reading.JournalsRead.TheVariants as reads
use Rattle.st_journal.specs.EventReading.{event_of, has_few_rows}
use Rattle.st_journal.specs.ReplyReading.{reply_of}
use Rattle.st_journal.specs.EntryReading.{parts_of, event_part_of, reply_part_of, entry_of}
use Rattle.st_journal.specs.JournalLines.{JournalDraft, nothing, empty_journals, filled, ended_with, journals_of, with_journal, group_names, journal_line, entry_in, with_entry, entry_line, begins_with_digit, tokens_line, line_of}
use Rattle.st_journal.specs.JournalReading.{journals_from, journals_in, Reads, Tells, IsJournalOf, AreJournalsOf, HasOneOfEach}
use Rattle.st_journal.proofs.ReadEvents.{event_fits}

-- what the lines tell
told_by : (groups : List Group) (apps : List (List ℕ)) (first : ℕ) (lines : List (List ℕ)) (read : Result JournalDraft LineFault) (answer : JournalsRead)
    → Explains line_of (nothing groups apps) first lines read → Reads answer (journals_from groups read) → Tells groups apps first answer lines
told_by groups apps first lines (Ok d) (reads.Journals journals) good is = record { draft = d; good = good; journals_are = cc }
told_by groups apps first lines (Ok d) (reads.Fault line kind) good is = absurd (cc)
told_by groups apps first lines (Err fault) (reads.Journals journals) bad is = absurd (cc)
told_by groups apps first lines (Err fault) (reads.Fault line kind) bad is =
    let same : fault ≡ record { line = line; kind = kind } = cc in
    subst (λ (f : LineFault). IsFirstBad line_of (nothing groups apps) first lines f) same bad

pub told : (groups : List Group) (apps : List (List ℕ)) (first : ℕ) (bytes : List ℕ) (answer : JournalsRead) → Reads answer (journals_in groups apps first bytes) → Tells groups apps first answer (lines_of bytes)
told groups apps first bytes answer is = told_by groups apps first (lines_of bytes) (read_on line_of (nothing groups apps) first (lines_of bytes)) answer (explained line_of (nothing groups apps) first (lines_of bytes)) is

-- no line changes the groups
journal_groups : (d next : JournalDraft) (args : List (List ℕ)) → journal_line d args ≡ Ok next → next.groups ≡ d.groups
unfolding journal_line
journal_groups d next args is =
    let word = came_from (one_of args) _ next is in
    let group = came_from (known_name_in (group_names d.groups) word.0) _ next word.2 in
    let later = refused (nat_lt group.0 (length (journals_of d))) (Ok (with_journal d group.0)) next kinds.Twice group.2 in
    let made : with_journal d group.0 ≡ next = cc in
    sym (ap (λ (x : JournalDraft). x.groups) made)

entry_groups : (d next : JournalDraft) (number : List ℕ) (args : List (List ℕ)) → entry_line d number args ≡ Ok next → next.groups ≡ d.groups
unfolding entry_line
entry_groups d next number args is =
    let entry = came_from (entry_in d number args) _ next is in
    let made : with_entry d entry.0 ≡ next = cc in
    sym (ap (λ (x : JournalDraft). x.groups) made)

tokens_groups : (d next : JournalDraft) (tokens : List (List ℕ)) → tokens_line d tokens ≡ Ok next → next.groups ≡ d.groups
tokens_groups d next [] is = let same : d ≡ next = cc in sym (ap (λ (x : JournalDraft). x.groups) same)
tokens_groups d next (word ∷ args) is = by_test (is_comment word) (bytes_eq word (codes "journal")) (begins_with_digit word) is
  where
    by_test : (skipped begins digit : Bool) → cond skipped (Ok d) (cond begins (journal_line d args) (cond digit (entry_line d word args) (Err kinds.Word))) ≡ Ok next → next.groups ≡ d.groups
    by_test true begins digit e = let same : d ≡ next = cc in sym (ap (λ (x : JournalDraft). x.groups) same)
    by_test false true digit e = journal_groups d next args e
    by_test false false true e = entry_groups d next word args e
    by_test false false false e = absurd (cc)

line_groups : (d next : JournalDraft) (line : List ℕ) → line_of d line ≡ Ok next → next.groups ≡ d.groups
unfolding line_of
line_groups d next line is = tokens_groups d next (tokens_of line) (chosen (has_allowed_bytes line) (tokens_line d (tokens_of line)) next kinds.Byte is).1

was_good : (n : ℕ) (r : Result JournalDraft FaultKind) (x : JournalDraft) → on_line n r ≡ Ok x → r ≡ Ok x
was_good n (Ok y) x e = let same : y ≡ x = cc in ap Ok same
was_good n (Err kind) x e = absurd (cc)

lines_groups : (lines : List (List ℕ)) (n : ℕ) (d last : JournalDraft) → read_on line_of d n lines ≡ Ok last → last.groups ≡ d.groups
lines_groups [] n d last is = let same : d ≡ last = cc in sym (ap (λ (x : JournalDraft). x.groups) same)
lines_groups (line ∷ lines) n d last is =
    let next = came_from (on_line n (line_of d line)) _ last is in
    lines_groups lines (n + 1) next.0 last next.2 ∙ line_groups d next.0 line (was_good n (line_of d line) next.0 next.1)

-- what is answered of where reading ended
pub answered : (d last : JournalDraft) (first : ℕ) (lines : List (List ℕ)) (end : Option LineFault) (answer : JournalsRead) → Ends end last (read_on line_of d first lines)
    → MatchOption end (Reads answer (Ok (filled (length last.groups) (journals_of last)))) (λ fault. Reads answer (Err fault)) → Reads answer (journals_from d.groups (read_on line_of d first lines))
answered d last first lines None answer is told =
    rw is (subst (λ (gs : List Group). Reads answer (Ok (filled (length gs) (journals_of last)))) (lines_groups lines first d last is) told)
answered d last first lines (Some fault) answer is told = rw is told

-- an entry that was read fits
entry_fits : (g : Group) (apps : List (List ℕ)) (n : ℕ) (number : List ℕ) (tokens : List (List ℕ)) (entry : Entry) → IsSound g → entry_of g apps n number tokens ≡ Ok entry → Fits g entry.event
unfolding entry_of
entry_fits g apps n number tokens entry s is =
    let parts = came_from (parts_of tokens) _ entry is in
    let next = came_from (number_within n n number) _ entry parts.2 in
    let asked = came_from (event_part_of parts.0.0) _ entry next.2 in
    let given = came_from (reply_part_of asked.0.0 parts.0.1) _ entry asked.2 in
    let event = came_from (event_of g apps asked.0.0 asked.0.1) _ entry given.2 in
    let reply = came_from (reply_of g apps next.0 event.0 given.0.0 given.0.1) _ entry event.2 in
    let few = chose (has_few_rows event.0) (record { event = event.0; reply = reply.0 }) entry kinds.Limit reply.2 in
    subst (λ (e : Entry). Fits g e.event) few.1 (event_fits g apps asked.0.1 asked.0.0 event.0 s event.1 few.0)

abbrev FitsEntry : Group → Entry → Type 0
FitsEntry g entry = Fits g entry.event

-- these journals, the first of which has number n, are of the first of the groups, and these groups are left
abbrev AreFirstOf : ℕ → List Group → List Journal → List Group → Type 0
AreFirstOf n groups [] left = groups ≡ left
AreFirstOf n [] (journal ∷ journals) left = ⊥
AreFirstOf n (g ∷ groups) (journal ∷ journals) left = IsJournalOf n g journal × AreFirstOf (n + 1) groups journals left

first_two : (n : ℕ) (groups : List Group) (journals more : List Journal) (middle left : List Group) → AreFirstOf n groups journals middle → AreFirstOf (n + length journals) middle more left → AreFirstOf n groups (journals ++ more) left
first_two n groups [] more middle left first then =
    let number : n + 0 ≡ n = omega arith in
    subst (λ (m : ℕ). AreFirstOf m groups more left) number (subst (λ (gs : List Group). AreFirstOf (n + 0) gs more left) (sym first) then)
first_two n [] (journal ∷ journals) more middle left first then = absurd first
first_two n (g ∷ groups) (journal ∷ journals) more middle left first then =
    let number : n + suc (length journals) ≡ (n + 1) + length journals = omega arith in
    (first.0, first_two (n + 1) groups journals more middle left first.1 (subst (λ (m : ℕ). AreFirstOf m middle more left) number then))

first_count : (n : ℕ) (groups : List Group) (journals : List Journal) (left : List Group) → AreFirstOf n groups journals left → length journals + length left ≡ length groups
first_count n groups [] left first = let same : length groups ≡ length left = ap length first in omega arith
first_count n [] (journal ∷ journals) left first = absurd first
first_count n (g ∷ groups) (journal ∷ journals) left first = let rest = first_count (n + 1) groups journals left first.1 in omega (arith, rest)

first_all : (n : ℕ) (groups : List Group) (journals : List Journal) → AreFirstOf n groups journals [] → AreJournalsOf n groups journals
first_all n [] [] first = tt
first_all n (g ∷ groups) [] first = absurd (cc)
first_all n [] (journal ∷ journals) first = absurd first
first_all n (g ∷ groups) (journal ∷ journals) first = (first.0, first_all (n + 1) groups journals first.1)

-- the group behind those that have journals is the first that is left
next_left : (n : ℕ) (groups : List Group) (journals : List Journal) (left : List Group) → AreFirstOf n groups journals left → slice_get groups (length journals) ≡ slice_get left 0
next_left n groups [] left first = ap (λ (gs : List Group). slice_get gs 0) first
next_left n [] (journal ∷ journals) left first = absurd first
next_left n (g ∷ groups) (journal ∷ journals) left first = next_left (n + 1) groups journals left first.1

-- empty journals of the next groups
record AreEmptyOf (n count : ℕ) (groups : List Group) : Type 0 where
  left : List Group
  first : AreFirstOf n groups (empty_journals n count) left
  count_is : count + length left ≡ length groups

empty_first : (n count : ℕ) (groups : List Group) → count ≤ length groups → AreEmptyOf n count groups
empty_first n zero groups few = record { left = groups; first = refl; count_is = omega arith }
empty_first n (suc more) [] few = absurd (omega arith)
empty_first n (suc more) (g ∷ groups) few =
    let rest = empty_first (n + 1) more groups (omega arith) in
    let count : more + length rest.left ≡ length groups = rest.count_is in
    record { left = rest.left; first = (record { number = refl; fits = λ k d less. absurd (omega arith) }, rest.first); count_is = omega (arith, count) }

-- the groups behind those that are filled
record AreFilled (groups : List Group) (n : ℕ) (journals : List Journal) : Type 0 where
  left : List Group
  first : AreFirstOf 0 groups (filled n journals) left
  count_is : length journals ≤ n → n + length left ≡ length groups

fill_first : (groups : List Group) (n : ℕ) (journals : List Journal) (left : List Group) → AreFirstOf 0 groups journals left → n ≤ length groups → AreFilled groups n journals
fill_first groups n journals left first few =
    let count = first_count 0 groups journals left first in
    let more = empty_first (length journals) (n - length journals) left (omega (arith, count)) in
    let left_count : (n - length journals) + length more.left ≡ length left = more.count_is in
    let number : length journals ≡ 0 + length journals = omega arith in
    let then = subst (λ (m : ℕ). AreFirstOf m left (empty_journals (length journals) (n - length journals)) more.left) number more.first in
    record { left = more.left; first = first_two 0 groups journals (empty_journals (length journals) (n - length journals)) left more.left first then; count_is = λ behind. omega (arith, count, left_count) }

-- the entries of the journal that is begun fit the first group that is left
abbrev BegunFits : List Group → Option (List Entry) → Type 0
BegunFits left None = Unit {0}
BegunFits [] (Some entries) = ⊥
BegunFits (g ∷ left) (Some entries) = AllByRecursion (FitsEntry g) entries

record IsSoundDraft (groups : List Group) (d : JournalDraft) : Type 0 where
  same : d.groups ≡ groups
  left : List Group
  first : AreFirstOf 0 groups d.ended left
  begun : BegunFits left d.begun

record AreSoundJournals (groups : List Group) (journals : List Journal) : Type 0 where
  left : List Group
  first : AreFirstOf 0 groups journals left

ended_first : (groups : List Group) (journals : List Journal) (begun : Option (List Entry)) (left : List Group) → AreFirstOf 0 groups journals left → BegunFits left begun → AreSoundJournals groups (ended_with journals begun)
ended_first groups journals None left first fits = record { left = left; first = first }
ended_first groups journals (Some entries) [] first fits = absurd fits
ended_first groups journals (Some entries) (g ∷ left) first fits =
    record { left = left; first = first_two 0 groups journals (record { group = length journals; entries = entries } ∷ []) (g ∷ left) left first (record { number = omega arith; fits = All-from_recursion (FitsEntry g) entries fits }, refl) }

begins_fit : (left : List Group) → 0 < length left → BegunFits left (Some [])
begins_fit [] some = absurd (omega arith)
begins_fit (g ∷ left) some = tt

-- the number of a group that is named
group_below : (groups : List Group) (token : List ℕ) (n : ℕ) → known_name_in (group_names groups) token ≡ Ok n → n < length groups
unfolding known_name_in
group_below groups token n is =
    let name = came_from (name_in token) _ n is in
    let at = was_some (place_of name.0 (group_names groups)) n kinds.Unknown name.2 in
    let less = place_below name.0 (group_names groups) n at in
    let count : length (group_names groups) ≡ length groups = length-map groups (λ (g : Group). g.name) in
    omega (arith, less, count)

journal_sound : (groups : List Group) (d next : JournalDraft) (args : List (List ℕ)) → IsSoundDraft groups d → journal_line d args ≡ Ok next → IsSoundDraft groups next
unfolding journal_line
journal_sound groups d next args s is =
    let word = came_from (one_of args) _ next is in
    let group = came_from (known_name_in (group_names d.groups) word.0) _ next word.2 in
    let later = refused (nat_lt group.0 (length (journals_of d))) (Ok (with_journal d group.0)) next kinds.Twice group.2 in
    let made : with_journal d group.0 ≡ next = cc in
    let below : group.0 < length d.groups = group_below d.groups word.0 group.0 group.1 in
    let same : length d.groups ≡ length groups = ap length s.same in
    let behind : length (journals_of d) ≤ group.0 = grind (arith, nat_tests) in
    let ended = ended_first groups d.ended d.begun s.left s.first s.begun in
    let full = fill_first groups group.0 (journals_of d) ended.left ended.first (omega (arith, below, same)) in
    let count = full.count_is behind in
    subst (IsSoundDraft groups) made (record { same = s.same; left = full.left; first = full.first; begun = begins_fit full.left (omega (arith, below, same, count)) })

-- one more entry of the journal that is begun
pushed : {X : Type 0} (P : X → Type 0) (xs : List X) (x : X) → AllByRecursion P xs → P x → AllByRecursion P (xs ++ x ∷ [])
pushed P [] x all p = (p, tt)
pushed P (y ∷ ys) x all p = (all.0, pushed P ys x all.1 p)

entered_fits : (left : List Group) (g : Group) (begun : Option (List Entry)) (entries : List Entry) (entry : Entry) → slice_get left 0 ≡ Some g → begun ≡ Some entries → BegunFits left begun → Fits g entry.event
    → BegunFits left (option_map (λ (es : List Entry). es ++ entry ∷ []) begun)
entered_fits left g None entries entry at some fits one = absurd (cc)
entered_fits [] g (Some es) entries entry at some fits one = absurd (cc)
entered_fits (h ∷ left) g (Some es) entries entry at some fits one =
    let same : g ≡ h = cc in
    pushed (FitsEntry h) es entry fits (subst (λ (x : Group). Fits x entry.event) same one)

sound_at : (groups : List Group) (n : ℕ) (g : Group) → AllByRecursion IsSound groups → slice_get groups n ≡ Some g → IsSound g
sound_at [] n g all at = absurd (cc)
sound_at (h ∷ groups) zero g all at = let same : h ≡ g = cc in subst IsSound same all.0
sound_at (h ∷ groups) (suc n) g all at = sound_at groups n g all.1 at

entry_sound : (groups : List Group) (d next : JournalDraft) (number : List ℕ) (args : List (List ℕ)) → AllByRecursion IsSound groups → IsSoundDraft groups d → entry_line d number args ≡ Ok next → IsSoundDraft groups next
unfolding entry_line entry_in
entry_sound groups d next number args sound s is =
    let entry = came_from (entry_in d number args) _ next is in
    let entries = came_from (ok_or d.begun kinds.Word) _ entry.0 entry.1 in
    let g = came_from (ok_or (slice_get d.groups (length d.ended)) kinds.Word) _ entry.0 entries.2 in
    let at = was_some (slice_get d.groups (length d.ended)) g.0 kinds.Word g.1 in
    let here : slice_get groups (length d.ended) ≡ Some g.0 = subst (λ (gs : List Group). slice_get gs (length d.ended) ≡ Some g.0) s.same at in
    let head : slice_get s.left 0 ≡ Some g.0 = sym (next_left 0 groups d.ended s.left s.first) ∙ here in
    let fits = entry_fits g.0 d.apps (length entries.0 + 1) number args entry.0 (sound_at groups (length d.ended) g.0 sound here) g.2 in
    let made : with_entry d entry.0 ≡ next = cc in
    subst (IsSoundDraft groups) made (record { same = s.same; left = s.left; first = s.first; begun = entered_fits s.left g.0 d.begun entries.0 entry.0 head (was_some d.begun entries.0 kinds.Word entries.1) s.begun fits })

tokens_sound : (groups : List Group) (d next : JournalDraft) (tokens : List (List ℕ)) → AllByRecursion IsSound groups → IsSoundDraft groups d → tokens_line d tokens ≡ Ok next → IsSoundDraft groups next
tokens_sound groups d next [] sound s is = let same : d ≡ next = cc in subst (IsSoundDraft groups) same s
tokens_sound groups d next (word ∷ args) sound s is = by_test (is_comment word) (bytes_eq word (codes "journal")) (begins_with_digit word) is
  where
    by_test : (skipped begins digit : Bool) → cond skipped (Ok d) (cond begins (journal_line d args) (cond digit (entry_line d word args) (Err kinds.Word))) ≡ Ok next → IsSoundDraft groups next
    by_test true begins digit e = let same : d ≡ next = cc in subst (IsSoundDraft groups) same s
    by_test false true digit e = journal_sound groups d next args s e
    by_test false false true e = entry_sound groups d next word args sound s e
    by_test false false false e = absurd (cc)

line_sound : (groups : List Group) (d next : JournalDraft) (line : List ℕ) → AllByRecursion IsSound groups → IsSoundDraft groups d → line_of d line ≡ Ok next → IsSoundDraft groups next
unfolding line_of
line_sound groups d next line sound s is = tokens_sound groups d next (tokens_of line) sound s (chosen (has_allowed_bytes line) (tokens_line d (tokens_of line)) next kinds.Byte is).1

lines_sound : (groups : List Group) (lines : List (List ℕ)) (n : ℕ) (d last : JournalDraft) → AllByRecursion IsSound groups → IsSoundDraft groups d → read_on line_of d n lines ≡ Ok last → IsSoundDraft groups last
lines_sound groups [] n d last sound s is = let same : d ≡ last = cc in subst (IsSoundDraft groups) same s
lines_sound groups (line ∷ lines) n d last sound s is =
    let next = came_from (on_line n (line_of d line)) _ last is in
    lines_sound groups lines (n + 1) next.0 last sound (line_sound groups d next.0 line sound s (was_good n (line_of d line) next.0 next.1)) next.2

no_left : (left : List Group) → length left ≡ 0 → left ≡ []
no_left [] none = refl
no_left (g ∷ left) none = absurd (omega arith)

all_filled : (groups : List Group) (d : JournalDraft) → IsSoundDraft groups d → AreJournalsOf 0 groups (filled (length groups) (journals_of d))
all_filled groups d s =
    let ended = ended_first groups d.ended d.begun s.left s.first s.begun in
    let count = first_count 0 groups (journals_of d) ended.left ended.first in
    let full = fill_first groups (length groups) (journals_of d) ended.left ended.first (omega arith) in
    let behind : length (journals_of d) ≤ length groups = omega (arith, count) in
    let whole = full.count_is behind in
    let none : full.left ≡ [] = no_left full.left (omega (arith, whole)) in
    first_all 0 groups (filled (length groups) (journals_of d)) (subst (λ (gs : List Group). AreFirstOf 0 groups (filled (length groups) (journals_of d)) gs) none full.first)

one_by : (groups : List Group) (apps lines : List (List ℕ)) (first : ℕ) (read : Result JournalDraft LineFault) (answer : JournalsRead) → AllByRecursion IsSound groups → read_on line_of (nothing groups apps) first lines ≡ read
    → Reads answer (journals_from groups read) → HasOneOfEach groups answer
one_by groups apps lines first (Ok d) (reads.Journals journals) sound was is =
    let start : IsSoundDraft groups (nothing groups apps) = record { same = refl; left = groups; first = refl; begun = tt } in
    let same : filled (length groups) (journals_of d) ≡ journals = cc in
    subst (λ (js : List Journal). AreJournalsOf 0 groups js) same (all_filled groups d (lines_sound groups lines first (nothing groups apps) d sound start was))
one_by groups apps lines first (Err fault) (reads.Journals journals) sound was is = absurd (cc)
one_by groups apps lines first (Ok d) (reads.Fault line kind) sound was is = tt
one_by groups apps lines first (Err fault) (reads.Fault line kind) sound was is = tt

-- each group has one journal, whose events fit
pub one_of_each : (groups : List Group) (apps : List (List ℕ)) (first : ℕ) (bytes : List ℕ) (answer : JournalsRead) → AllByRecursion IsSound groups → Reads answer (journals_in groups apps first bytes) → HasOneOfEach groups answer
one_of_each groups apps first bytes answer sound is = one_by groups apps (lines_of bytes) first (read_on line_of (nothing groups apps) first (lines_of bytes)) answer sound refl is

-- Journals that threads have made: they are gone through again to show what came of them, and a run ends as it says.
use Rattle.std.proofs.Common.{◌≡◌, ℕ, zero, suc, ◌+◌, ◌-◌, ◌<◌, ◌≤◌, List, [], ◌∷◌, length, map, Option, Some, refl, ap, sym, ◌∙◌, subst, inl, arith}
use Rattle.std.specs.Prelude.{All, ◌⊎◌, reverse, slice_index_or}
use Rattle.std.proofs.lemmas.List.{get_or-reverse, length-map, length-reverse, reverse-reverse}
use Rattle.std.proofs.lemmas.Option.{get_or_from_slice_get}
use Rattle.std.proofs.Math.ListN.{get_or-map}
use Rattle.st_net.specs.Groups.{Group}
use Rattle.st_event.specs.declared.act.Log.{Log}
use Rattle.st_event.specs.declared.journal.Entry.{Entry}
use Rattle.st_event.specs.declared.journal.Journal.{Journal}
use Rattle.st_event.specs.Legal.{Fits, IsLegal}
use Rattle.st_event.proofs.Accepting.{legal_within}
use Rattle.st_grammar.specs.declared.doc.Doc.{Doc}
use Rattle.st_words.specs.declared.job.Form.{Form}
use Rattle.st_journal.specs.JournalReading.{AreJournalsOf}
use Rattle.st_serial.specs.Kept.{AreKept, groups_of}
use Rattle.st_serial.specs.Most.{HasRoom, most}
use Rattle.st_run.specs.declared.playing.Played.{Played}
use Rattle.st_event.specs.Services.{AreNumbers}
use Rattle.st_run.specs.Running.{IsFullIn, IsRunOf}
use Rattle.st_replay.specs.declared.status.Status.{Status}
use Rattle.st_replay.specs.declared.status.Status.TheVariants.{Ok, JournalFull, OutOfMemory}
use Rattle.st_top.specs.Answer.{EndsOnRunDoc, Results}
use Rattle.st_top.specs.Ending.{IsToldOfRun}
use Rattle.st_replay.specs.Replaying.{AreLegal, HasFewEntries}

-- the events of a legal journal fit its group, and it has no more entries than a journal may have
legal_at : (g : Group) (past : List Entry) (k : ℕ) (d : Entry) → IsLegal g past → k < length past → Fits g (slice_index_or past k d).event
legal_at g [] k d legal low = absurd (omega (arith, low))
legal_at g (entry ∷ past) zero d legal low = legal.0.fits
legal_at g (entry ∷ past) (suc k) d legal low = legal_at g past k d legal.1 (omega (arith, low))

-- a number that stands in a list of numbers of places
pub numbered_at : (journals : List Journal) (count k : ℕ) (j : Journal) → AreNumbers (map (λ j. j.group) journals) count → k < count → (slice_index_or journals k j).group ≡ k
numbered_at journals count k j numbers low =
    let number : Journal → ℕ = λ j. j.group in
    let within : k < length journals = omega (arith, numbers.0, length-map journals number, low) in
    sym (get_or-map number journals k j) ∙ get_or_from_slice_get (map number journals) k k (number j) (numbers.1 k low)

-- so its journal is one with events that a world may enter
fits_each : (g : Group) (entries : List Entry) → IsLegal g (reverse entries) → All (λ (entry : Entry). Fits g entry.event) entries
fits_each g entries legal k d low =
    let many = length-reverse entries in
    let within : k < length (reverse entries) = omega (arith, many, low) in
    let place = length (reverse entries) - 1 - k in
    subst (λ (entry : Entry). Fits g entry.event) (sym (get_or-reverse (reverse entries) k d within) ∙ ap (λ (xs : List Entry). slice_index_or xs k d) (reverse-reverse entries))
    (legal_at g (reverse entries) place d legal (omega (arith, within)))

-- and kept journals are those of their groups, legal, and no longer than journals may be
journals_from : (n : ℕ) (groups : List Group) (journals : List Journal) → AreKept groups journals → ((k : ℕ) (j : Journal) → k < length journals → (slice_index_or journals k j).group ≡ n + k)
    → AreJournalsOf n groups journals
journals_from n [] [] kept numbers = tt
journals_from n [] (journal ∷ journals) kept numbers = absurd kept
journals_from n (g ∷ groups) [] kept numbers = absurd kept
journals_from n (g ∷ groups) (journal ∷ journals) kept numbers = (
  record { number = omega (arith, numbers 0 journal (omega arith)); fits = fits_each g journal.entries kept.0.legal },
  journals_from (n + 1) groups journals kept.1 (λ k j low. omega (arith, numbers (suc k) j (omega (arith, low)))),
)

pub kept_legal : (groups : List Group) (journals : List Journal) → AreKept groups journals → AreLegal groups journals
kept_legal [] [] kept = tt
kept_legal [] (journal ∷ journals) kept = absurd kept
kept_legal (g ∷ groups) [] kept = absurd kept
kept_legal (g ∷ groups) (journal ∷ journals) kept = (kept.0.legal, kept_legal groups journals kept.1)

few_at : (groups : List Group) (journals : List Journal) (k : ℕ) (j : Journal) → AreLegal groups journals → k < length journals → HasFewEntries (slice_index_or journals k j)
few_at [] [] k j legal low = absurd (omega (arith, low))
few_at [] (journal ∷ journals) k j legal low = absurd legal
few_at (g ∷ groups) [] k j legal low = absurd legal
few_at (g ∷ groups) (journal ∷ journals) zero j legal low = omega (arith, legal_within g (reverse journal.entries) legal.0, length-reverse journal.entries)
few_at (g ∷ groups) (journal ∷ journals) (suc k) j legal low = few_at groups journals k j legal.1 (omega (arith, low))

pub all_few : (groups : List Group) (journals : List Journal) → AreLegal groups journals → All HasFewEntries journals
all_few groups journals legal = λ k j low. few_at groups journals k j legal low

pub journals_each : (doc : Doc) (full : Option ℕ) (journals : List Journal) (logs : List Log) → IsRunOf doc full journals logs → AreJournalsOf 0 (groups_of doc) journals
journals_each doc full journals logs run =
    let number : Journal → ℕ = λ j. j.group in
    journals_from 0 (groups_of doc) journals run.kept (λ k j low. omega (arith, numbered_at journals (length doc.groups) k j run.groups (omega (arith, run.groups.0, length-map journals number, low))))

-- a run ends on a document by its status and its text
abbrev results_of : Played → Results
results_of played = record { journals = played.journals.items; logs = played.logs.items }

told_ends : (form : Form) (doc : Doc) (played : Played) (text : List ℕ) (status : Status) → IsRunOf doc played.full played.journals.items played.logs.items → IsToldOfRun form doc played status text
    → EndsOnRunDoc form doc (results_of played) text status
told_ends form doc played text Ok run told = record {
  run = subst (λ (full : Option ℕ). IsRunOf doc full played.journals.items played.logs.items) told.0 run;
  report = told.1;
}
told_ends form doc played text (JournalFull group) run told = record {
  run = subst (λ (full : Option ℕ). IsRunOf doc full played.journals.items played.logs.items) told.0 run;
  told = told.1;
}
told_ends form doc played text _ run told = absurd told

pub run_ends : (form : Form) (doc : Doc) (played : Played) (results : Results) (text : List ℕ) (status : Status) → IsRunOf doc played.full played.journals.items played.logs.items
    → IsToldOfRun form doc played status text → results ≡ results_of played → EndsOnRunDoc form doc results text status
run_ends form doc played results text status run told are = subst (λ (r : Results). EndsOnRunDoc form doc r text status) (sym are) (told_ends form doc played text status run told)

-- where the scripts can fill no journal, none is full
abbrev no_journal : Journal
no_journal = record { group = 0; entries = [] }

none_full : (doc : Doc) (results : Results) (group : ℕ) → HasRoom doc → IsRunOf doc (Some group) results.journals results.logs → ⊥
none_full doc results group room run =
    let number : Journal → ℕ = λ j. j.group in
    let journal = slice_index_or results.journals group no_journal in
    let full : IsFullIn results.journals group = run.full_is in
    let low : group < length doc.groups = omega (arith, run.groups.0, length-map results.journals number, full.0) in
    let few = run.within group no_journal full.0 in
    let own : length journal.entries ≤ most doc group =
    subst (λ (n : ℕ). length journal.entries ≤ most doc n) (numbered_at results.journals (length doc.groups) group no_journal run.groups low) few in
    omega (arith, own, full.1 no_journal, room group low)

pub run_well : (form : Form) (doc : Doc) (results : Results) (text : List ℕ) (status : Status) → HasRoom doc → EndsOnRunDoc form doc results text status → (status ≡ Ok) ⊎ (status ≡ OutOfMemory)
run_well form doc results text Ok room is = inl refl
run_well form doc results text (JournalFull group) room is = absurd (none_full doc results group room is.run)
run_well form doc results text _ room is = absurd is

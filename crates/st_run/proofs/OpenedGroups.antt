-- The groups of a document by their numbers: as they are opened, and with the journals that were made of them.
use Rattle.std.proofs.Common.{◌≡◌, ℕ, zero, suc, ◌<◌, List, [], ◌∷◌, length, map, refl, ap, sym, ◌∙◌, arith}
use Rattle.std.specs.Prelude.{Some, slice_get, slice_index_or, reverse}
use Rattle.std.proofs.lemmas.Option.{none-some, same_Some, slice_get-get_or}
use Rattle.st_net.specs.declared.parts.Parts.{Parts}
use Rattle.st_net.specs.Faults.{group_of}
use Rattle.st_net.specs.Groups.{Group}
use Rattle.st_event.specs.declared.journal.Journal.{Journal}
use Rattle.st_wire.specs.declared.line.WireLine.{WireLine}
use Rattle.st_grammar.specs.declared.doc.Doc.{Doc}
use Rattle.st_grammar.specs.Sound.{IsSoundDoc}
use Rattle.st_serial.specs.Serial.{GroupState, all_opened}
use Rattle.st_run.specs.CarriedOut.{with_journals}
use Rattle.st_serial.specs.Kept.{groups_of}
use Rattle.st_run.specs.Running.{AreStatesOf}

-- a group at its opening
abbrev pub opening_at : (ℕ → Group) → (ℕ → List WireLine) → ℕ → GroupState
opening_at groups lines k = record { history = record { group = groups k; past = [] }; lines = lines k }

opened_count : (groups : List Parts) (wires : List (List WireLine)) → length wires ≡ length groups → length (all_opened groups wires) ≡ length groups
opened_count [] wires same = refl
opened_count (parts ∷ groups) [] same = absurd (omega (arith, same))
opened_count (parts ∷ groups) (lines ∷ wires) same = ap suc (opened_count groups wires (omega (arith, same)))

-- the group of a number, where there are lines for each
pub opened_get : (groups : ℕ → Group) (lines : ℕ → List WireLine) (doc : Doc) → IsSoundDoc doc → AreStatesOf groups lines doc → (k : ℕ)
    → k < length doc.groups
    → slice_get (all_opened doc.groups doc.wires) k ≡ Some (opening_at groups lines k)
opened_get groups lines doc sound states k low =
    let count = opened_count doc.groups doc.wires sound.wires in
    slice_get-get_or (all_opened doc.groups doc.wires) k (opening_at groups lines k) (omega (arith, count, low)) ∙ ap Some (states k (opening_at groups lines k) low)

opened_group : (groups : List Parts) (wires : List (List WireLine)) (k : ℕ) (d : GroupState) (g : Group) → length wires ≡ length groups
    → k < length groups
    → (slice_index_or (all_opened groups wires) k d).history.group ≡ slice_index_or (map group_of groups) k g
opened_group [] wires k d g same low = absurd (omega (arith, low))
opened_group (parts ∷ groups) [] k d g same low = absurd (omega (arith, same))
opened_group (parts ∷ groups) (lines ∷ wires) zero d g same low = refl
opened_group (parts ∷ groups) (lines ∷ wires) (suc k) d g same low = opened_group groups wires k d g (omega (arith, same)) (omega (arith, low))

-- the group of a number is the document's group of that number
pub group_at : (groups : ℕ → Group) (lines : ℕ → List WireLine) (doc : Doc) → IsSoundDoc doc → AreStatesOf groups lines doc → (k : ℕ) (g : Group)
    → k < length doc.groups → groups k ≡ slice_index_or (groups_of doc) k g
group_at groups lines doc sound states k g low =
    let opening = opening_at groups lines k in
    sym (ap (λ (s : GroupState). s.history.group) (states k opening low)) ∙ opened_group doc.groups doc.wires k opening g sound.wires low

-- a group with its journal was opened, and there is a journal of its number
pub record HasJournal (opened : List GroupState) (journals : List Journal) (n : ℕ) (s : GroupState) : Type 0 where
  pub opening : GroupState
  pub journal : Journal
  pub opens : slice_get opened n ≡ Some opening
  pub told : slice_get journals n ≡ Some journal
  pub is : record { history = record { group = opening.history.group; past = reverse journal.entries }; lines = opening.lines } ≡ s

pub has_journal : (opened : List GroupState) (journals : List Journal) (n : ℕ) (s : GroupState)
    → slice_get (with_journals opened journals) n ≡ Some s → HasJournal opened journals n s
has_journal [] journals n s is = absurd (none-some s is)
has_journal (opening ∷ opened) [] n s is = absurd (none-some s is)
has_journal (opening ∷ opened) (journal ∷ journals) zero s is = record { opening = opening; journal = journal; opens = refl; told = refl; is = same_Some _ s is }
has_journal (opening ∷ opened) (journal ∷ journals) (suc n) s is =
    let later = has_journal opened journals n s is in
    record { opening = later.opening; journal = later.journal; opens = later.opens; told = later.told; is = later.is }

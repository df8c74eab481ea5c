-- What was played on a service of a document's groups is a run of the document.
use Rattle.std.proofs.Common.{◌≡◌, ℕ, suc, ◌+◌, ◌*◌, ◌<◌, ◌≤◌, List, [], ◌∷◌, length, map, Option, Some, None, refl, ap, sym, subst, ◌∙◌, arith}
use Rattle.std.specs.Prelude.{All, IfSome, reverse, slice_get, slice_index_or, sum_by}
use Rattle.std.proofs.lemmas.List.{length-map, length-reverse}
use Rattle.std.proofs.lemmas.Option.{slice_get_within, get_or_from_slice_get}
use mathlib.Core.List.{IsPrefix}
use Rattle.st_net.specs.Faults.{group_of}
use Rattle.st_net.specs.Groups.{Group}
use Rattle.st_event.specs.declared.act.Act.{Act}
use Rattle.st_event.specs.declared.act.Log.{Log}
use Rattle.st_event.specs.declared.journal.Entry.{Entry}
use Rattle.st_event.specs.declared.journal.Journal.{Journal}
use Rattle.st_event.specs.declared.journal.TheConstants.{MAX_ENTRIES, MAX_PENDING}
use Rattle.st_event.specs.Legal.{IsLegal}
use Rattle.st_event.proofs.Accepting.{legal_within}
use Rattle.st_event.proofs.Promises.{keeps_throughout}
use Rattle.st_wire.specs.declared.line.WireLine.{WireLine}
use Rattle.st_event.proofs.Prefixes.{prefix_length}
use Rattle.st_service.specs.Closed.{IsWhole}
use Rattle.st_service.specs.Made.{Made, past_in}
use Rattle.st_service.specs.Passes.{Holder, front_at}
use Rattle.st_grammar.specs.declared.doc.Doc.{Doc}
use Rattle.st_grammar.specs.declared.doc.Script.{Script}
use Rattle.st_grammar.specs.Sound.{IsSoundDoc}
use Rattle.st_serial.specs.Most.{IsWithinMost, most, most_in, script_most}
use Rattle.st_serial.specs.Kept.{AreKept, IsKept, groups_of}
use Rattle.st_run.specs.Played.{AreClosed, IsPlayed, WasFull, acts_of}
use Rattle.st_run.specs.Running.{AreStatesOf, HasOwnRequests, HasSmallNumbers, IsByOneOf, IsFullIn, IsRunOf}
use Rattle.st_run.proofs.CarriedScripts.{journals_numbered, logs_numbered, scripts_are_carried}
use Rattle.st_run.proofs.MostMade.{made_within}
use Rattle.st_run.proofs.OpenedGroups.{group_at, opened_get}
use Rattle.st_run.proofs.OwnRequests.{requests_own}

-- a journal with its makers is legal, and its promises are kept at each moment

kept_one : (g : Group) (passes : List Holder) (n : ℕ) (entries : List Entry) (front : List Made) (j : Journal) → j.entries ≡ entries
    → IsWhole g passes n entries front → IsKept g j
kept_one g passes n entries front j are whole =
    let legal : IsLegal g (reverse j.entries) = subst (IsLegal g) (whole.journal ∙ ap reverse (sym are)) whole.legal in
    record { sound = whole.sound; legal = legal; promises = keeps_throughout g (reverse j.entries) whole.sound legal }

are_kept : (gs : List Group) (js : List Journal) → length js ≡ length gs
    → ((k : ℕ) (g : Group) (j : Journal) → k < length gs → IsKept (slice_index_or gs k g) (slice_index_or js k j)) → AreKept gs js
are_kept [] [] same each = tt
are_kept [] (j ∷ js) same each = absurd (omega (arith, same))
are_kept (g ∷ gs) [] same each = absurd (omega (arith, same))
are_kept (g ∷ gs) (j ∷ js) same each = (each 0 g j (omega arith), are_kept gs js (omega (arith, same)) (λ k h i low. each (suc k) h i (omega (arith, low))))

journals_kept : (doc : Doc) (groups : ℕ → Group) (lines : ℕ → List WireLine) (journals : List Journal) (logs : List Log) (passes : List Holder)
    → IsSoundDoc doc → AreStatesOf groups lines doc
    → AreClosed groups (length doc.groups) (length doc.apps) passes journals logs → AreKept (groups_of doc) journals
journals_kept doc groups lines journals logs passes sound states closed =
    let count = length-map doc.groups group_of in
    are_kept (groups_of doc) journals (closed.journal_count ∙ sym count)
    (λ k g j low.
    let within : k < length doc.groups = omega (arith, count, low) in
    let whole = closed.whole k j within in
    subst (λ (x : Group). IsKept x (slice_index_or journals k j)) (group_at groups lines doc sound states k g within)
    (kept_one (groups k) passes k (slice_index_or journals k j).entries whole.0 (slice_index_or journals k j) refl whole.1))

-- a journal has as many entries as the front that tells who made each, and no more than a journal can have

entries_count : (g : Group) (passes : List Holder) (n : ℕ) (entries : List Entry) (front : List Made) → IsWhole g passes n entries front
    → length entries ≡ length front
entries_count g passes n entries front whole =
    let told = ap (λ (es : List Entry). length es) whole.journal in
    let entry_of : Made → Entry = λ m. m.entry in
    omega (arith, told, length-reverse entries, length-reverse (map entry_of front), length-map front entry_of)

whole_few : (g : Group) (passes : List Holder) (n : ℕ) (entries : List Entry) (front : List Made) → IsWhole g passes n entries front
    → length entries ≤ MAX_ENTRIES
whole_few g passes n entries front whole =
    let few = legal_within g (past_in front) whole.legal in
    let told = ap (λ (es : List Entry). length es) whole.journal in
    omega (arith, few, told, length-reverse entries)

-- a journal that a pass has seen full is full

full_front : (g : Group) (passes : List Holder) (n : ℕ) (entries : List Entry) (front : List Made) (number : ℕ) (p : Holder)
    → IsWhole g passes n entries front → slice_get passes number ≡ Some p
    → MAX_ENTRIES ≤ length (front_at p.fronts n) → length entries ≡ MAX_ENTRIES
full_front g passes n entries front number p whole at full =
    let own = get_or_from_slice_get passes number p p at in
    let stands = whole.stands number p (slice_get_within passes number p at) in
    let begins : IsPrefix (front_at p.fronts n) front = subst (λ (h : Holder). IsPrefix (front_at h.fronts n) front) own stands.begins in
    let seen = prefix_length (front_at p.fronts n) front begins in
    let count = entries_count g passes n entries front whole in
    let few = whole_few g passes n entries front whole in
    omega (arith, seen, count, few, full)

full_in : (groups : ℕ → Group) (lines : ℕ → List WireLine) (rooms : ℕ) (scripts : List (List Act)) (full : Option ℕ) (journals : List Journal) (logs : List Log) (passes : List Holder) (n : ℕ)
    → IsPlayed groups lines rooms scripts full journals logs passes → WasFull passes n → IsFullIn journals n
full_in groups lines rooms scripts full journals logs passes n played was =
    let closed = played.closed in
    let rooms_are = played.rooms_are was.number was.pass was.is in
    let seen = was.full.0 in
    let low : n < rooms = omega (arith, rooms_are, seen) in
    let journal_count = closed.journal_count in (
      omega (arith, journal_count, low),
      λ j.
          let whole = closed.whole n j low in
          full_front (groups n) passes n (slice_index_or journals n j).entries whole.0 was.number was.pass whole.1 was.is was.full.1,
    )

full_if : (journals : List Journal) (passes : List Holder) (full : Option ℕ) → ((n : ℕ) → WasFull passes n → IsFullIn journals n)
    → IfSome full (λ n. WasFull passes n) → IfSome full (IsFullIn journals)
full_if journals passes None each is = tt
full_if journals passes (Some n) each is = each n is

-- the entries of a journal are those that the passes made there

within_most : (doc : Doc) (groups : ℕ → Group) (lines : ℕ → List WireLine) (full : Option ℕ) (journals : List Journal) (logs : List Log) (passes : List Holder)
    → IsSoundDoc doc → AreStatesOf groups lines doc
    → IsPlayed groups lines (length doc.groups) (acts_of doc.apps) full journals logs passes → All (IsWithinMost doc) journals
within_most doc groups lines full journals logs passes sound states played = λ k j low.
    let closed = played.closed in
    let journal_count = closed.journal_count in
    let within : k < length doc.groups = omega (arith, journal_count, low) in
    let whole = closed.whole k j within in
    let entries = (slice_index_or journals k j).entries in
    let count = entries_count (groups k) passes k entries whole.0 whole.1 in
    let made = whole.1.count in
    let few = made_within groups lines (length doc.groups) k doc.apps passes within played.count played.finished (played.worked k within) in
    let all : most doc k ≡ sum_by (script_most k (groups k) (lines k)) doc.apps + MAX_PENDING * length doc.apps =
    ap (most_in doc.apps k) (opened_get groups lines doc sound states k within) in
    subst (λ (n : ℕ). length entries ≤ most doc n) (sym (closed.numbered k j within)) (omega (arith, count, made, few, all))

-- each request there is by an application of the document: there is a pass for each, and those behind are workers', which make none

own_requests : (doc : Doc) (groups : ℕ → Group) (lines : ℕ → List WireLine) (full : Option ℕ) (journals : List Journal) (logs : List Log) (passes : List Holder)
    → IsPlayed groups lines (length doc.groups) (acts_of doc.apps) full journals logs passes → All (HasOwnRequests doc) journals
own_requests doc groups lines full journals logs passes played = λ k j low.
    let closed = played.closed in
    let journal_count = closed.journal_count in
    let whole = closed.whole k j (omega (arith, journal_count, low)) in
    let entries = (slice_index_or journals k j).entries in
    let count : length (acts_of doc.apps) ≡ length doc.apps = length-map doc.apps (λ (s : Script). s.acts) in
    subst (λ (n : ℕ). All (λ (entry : Entry). IsByOneOf n entry.event) entries) count
    (requests_own (groups k) passes k entries whole.0 (length (acts_of doc.apps)) played.count played.workers whole.1)

-- what was played of a document is a run of the document
pub played_is_run : (doc : Doc) (groups : ℕ → Group) (lines : ℕ → List WireLine) (full : Option ℕ) (journals : List Journal) (logs : List Log) (ends : List Holder)
    → IsSoundDoc doc → AreStatesOf groups lines doc
    → IsPlayed groups lines (length doc.groups) (acts_of doc.apps) full journals logs ends → All HasSmallNumbers journals → IsRunOf doc full journals logs
played_is_run doc groups lines full journals logs ends sound states played small =
    let closed : AreClosed groups (length doc.groups) (length doc.apps) ends journals logs =
    subst (λ (apps : ℕ). AreClosed groups (length doc.groups) apps ends journals logs) (length-map doc.apps (λ (s : Script). s.acts)) played.closed in
    record {
      groups = journals_numbered groups (length doc.groups) (length doc.apps) ends journals logs closed;
      apps = logs_numbered groups (length doc.groups) (length doc.apps) ends journals logs closed;
      carried = λ none. scripts_are_carried doc groups lines ends journals logs sound states played.closed (played.run none);
      full_is = full_if journals ends full (λ n was. full_in groups lines (length doc.groups) (acts_of doc.apps) full journals logs ends n played was)
          played.full_is;
      kept = journals_kept doc groups lines journals logs ends sound states closed;
      within = within_most doc groups lines full journals logs ends sound states played;
      ours = own_requests doc groups lines full journals logs ends played;
      small = small;
    }

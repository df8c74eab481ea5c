-- What a judgement that was made away from the checker tells of how the checker stands.
use Rattle.std.proofs.Common.{◌≡◌, ℕ, zero, suc, ◌<◌, List, [], ◌∷◌, length, map, take, ap, sym, ◌∙◌}
use Rattle.std.specs.Prelude.{Bool, true, false, slice_index_or}
use Rattle.std.proofs.lemmas.List.{get_or-map}
use Rattle.st_net.specs.declared.entity.Entity.{Entity}
use Rattle.st_net.specs.declared.entity.Row.{Row}
use Rattle.st_net.specs.Groups.{Group, no_promise}
use Rattle.st_net.specs.Asks.{asks, ask_count, ask_of}
use Rattle.st_net.specs.Laws.{KeepsWithMore, TellsKept}
use Rattle.st_net.specs.Merge.{alters, without_altered}
use Rattle.st_net.specs.Demands.{first_broken_of}
use Rattle.st_net.specs.Promises.{is_kept}
use Rattle.st_net.specs.Sets.{Marks, IsWithin, is_in}
use Rattle.st_event.specs.Proposals.{first_rows}
use Rattle.st_event.specs.Standing.{sure_in}
use Rattle.st_overlay.specs.Values.{value_in}
use Rattle.st_promise.specs.Book.{AreKept, held_asks}
use Rattle.st_promise.specs.Same.{HasSameNetwork}
use Rattle.st_promise.specs.ToFirst.{told_to}
use Rattle.st_promise.proofs.SameLaws.{same_asks, same_kept, same_first}
use Rattle.st_net.specs.declared.promise.Promise.{Promise}
use Rattle.st_control.specs.Control.{ControlView, standing_in}
use Rattle.st_control.specs.Verdict.{sure_without}
use Rattle.st_control.specs.Basis.{JudgedView, IsJudged}
use Rattle.st_control.proofs.CheckLemmas.{same_without}

read_in_front : (xs : List Bool) (n i : ℕ) → slice_index_or (take n xs) i false ≡ true → slice_index_or xs i false ≡ true
read_in_front [] zero i is = cc
read_in_front [] (suc n) i is = cc
read_in_front (x ∷ xs) zero i is = cc
read_in_front (x ∷ xs) (suc n) zero is = is
read_in_front (x ∷ xs) (suc n) (suc i) is = read_in_front xs n i is

-- what a judgement found to hold goes on to hold in each set that has all of the judged set, of a group with the same network
pub known_still : (g : Group) (j : JudgedView) (up : Entity → Bool) → KeepsWithMore g → TellsKept g → IsJudged j → HasSameNetwork j.group g → IsWithin (is_in j.after) up → AreKept g up j.holds
known_still g j up more tells judged same within i low marked =
    let left = is_in j.after in
    let asked = same_asks j.group g same in
    let here : i < ask_count j.group = rw (ap length asked) low in
    let reads = sym (ap (λ (l : List Bool). slice_index_or l i false) judged.holds) ∙ marked in
    let there = sym (get_or-map (is_kept j.group left) (asks j.group) i no_promise false here) ∙ read_in_front (held_asks j.group left) (told_to j.group j.first) i reads in
    let was : is_kept g left (ask_of g i) ≡ true = sym (same_kept j.group g left (ask_of j.group i) same ∙ ap (λ (ps : List Promise). is_kept g left (slice_index_or ps i no_promise)) asked) ∙ there in
    (tells up i low).1 (more left up (ask_of g i) within ((tells left i low).0 was))

-- the first demand that breaks between the judged sets is the first between equal sets
pub found_still : (g : Group) (j : JudgedView) (before after : Entity → Bool) → IsJudged j → HasSameNetwork j.group g → is_in j.sure ≡ before → is_in j.after ≡ after → j.first ≡ first_broken_of g before after
found_still g j before after judged same sure left = judged.first ∙ same_first j.group g (is_in j.sure) (is_in j.after) same ∙ (λ i. first_broken_of g (sure i) (left i))

-- where nothing is known, nothing is claimed
pub known_none : (g : Group) (up : Entity → Bool) → AreKept g up []
known_none g up i low marked = cc

-- what is left is what the rows of the oldest proposal leave
pub left_is : (k : ControlView) (left changed : Marks) (rows : List Row) → is_in left ≡ sure_without k changed → is_in changed ≡ alters k.group (value_in k.store.target) rows → rows ≡ first_rows k.store.pending → is_in left ≡ without_altered k.group (sure_in k.group (standing_in k)) (value_in k.store.target) (first_rows k.store.pending)
left_is k left changed rows left_by altered first = left_by ∙ same_without k changed rows altered ∙ ap (without_altered k.group (sure_in k.group (standing_in k)) (value_in k.store.target)) first

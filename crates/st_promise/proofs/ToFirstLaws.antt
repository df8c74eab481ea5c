-- Asks judged in order, up to the first that a change breaks: what the changes of a few of them tell.
use Rattle.std.proofs.Common.{◌≡◌, ℕ, ◌+◌, ◌-◌, ◌<◌, List, [], ◌∷◌, ◌++◌, zero, suc, length, map, take, drop, All, Vec, Global, refl, ap, subst, ◌∙◌, sym, arith}
use Rattle.std.specs.Prelude.{Bool, true, false, not, Some, None, Result, Ok, Err, IfOk, MatchResult, ◌&&◌, slice_index_or, if◌then◌else◌}
use Rattle.std.specs.List.{AllZip, Contains, range_with_len, filter}
use Rattle.st_net.specs.declared.entity.Entity.{Entity}
use Rattle.st_net.specs.declared.promise.Broken.{Broken}
use Rattle.st_net.specs.Groups.{Group, no_promise}
use Rattle.st_net.specs.Promises.{is_kept, is_broken, broken_at, first_broken}
use Rattle.st_net.specs.Asks.{asks, ask_count, ask_of}
use Rattle.st_net.specs.Demands.{broken_demand}
use Rattle.st_flow.specs.Network.{Network}
use Rattle.rayon.proofs.ListFacts.{AllZip-weaken}
use Rattle.st_promise.specs.declared.change.Change.{Change}
use Rattle.st_promise.specs.UpNetwork.{up_network}
use Rattle.st_promise.specs.Change.{IsChange}
use Rattle.st_promise.specs.declared.to_first.Ahead.{Ahead}
use Rattle.st_promise.specs.ToFirst.{open_from, told_to, IsAheadAt}
use Rattle.st_promise.proofs.JudgeLaws.{broken_here}
use Rattle.std.proofs.lemmas.List.{take_more, drop_more, get_or-map, length-map}
use Rattle.std.proofs.lemmas.List.Elements.{All-filter, All-take}
use Rattle.std.proofs.lemmas.List.FromFn.{length-range_with_len, get_or-range_with_len}

-- where each answer has its fact if it came, and all came, each has its fact
met : {X Y : Type 0} (E : Type 0) (P : X → Y → Type 0) (xs : List X) (ys : List Y) → AllZip (λ x (r : Result Y E). IfOk r (P x)) xs (map Ok ys) → AllZip P xs ys
met E P [] [] each = each
met E P (x ∷ xs) (y ∷ ys) each = (each.0, met E P xs ys each.1)
met E P [] (y ∷ ys) each = absurd each
met E P (x ∷ xs) [] each = absurd each

pub all_met : {X Y : Type 0} (E : Type 0) (P : X → Y → Type 0) (xs : List X) (rs : List (Result Y E)) (r : Result (Vec Y Global) E)
    → AllZip (λ x (y : Result Y E). IfOk y (P x)) xs rs
    → MatchResult r (λ v. (ys : List Y) × (rs ≡ map Ok ys) × (v.items ≡ ys)) (λ e. Contains rs (Err e))
    → IfOk r (λ v. AllZip P xs v.items)
all_met E P xs rs (Ok v) each all = subst (λ ys. AllZip P xs ys) (sym all.2) (met E P xs all.0 (subst (λ ys. AllZip (λ x y. IfOk y (P x)) xs ys) all.1 each))
all_met E P xs rs (Err e) each all = tt

-- there are as many answers
as_many : {X Y : Type 0} (E : Type 0) (Q : X → Result Y E → Type 0) (xs : List X) (ys : List Y) → AllZip Q xs (map Ok ys) → length ys ≡ length xs
as_many E Q [] [] each = refl
as_many E Q (x ∷ xs) (y ∷ ys) each = ap suc (as_many E Q xs ys each.1)
as_many E Q [] (y ∷ ys) each = absurd each
as_many E Q (x ∷ xs) [] each = absurd each

pub all_as_many : {X Y : Type 0} (E : Type 0) (Q : X → Result Y E → Type 0) (xs : List X) (rs : List (Result Y E)) (r : Result (Vec Y Global) E)
    → AllZip Q xs rs
    → MatchResult r (λ v. (ys : List Y) × (rs ≡ map Ok ys) × (v.items ≡ ys)) (λ e. Contains rs (Err e))
    → IfOk r (λ v. length v.items ≡ length xs)
all_as_many E Q xs rs (Ok v) each all = ap length all.2 ∙ as_many E Q xs all.0 (subst (λ ys. AllZip Q xs ys) all.1 each)
all_as_many E Q xs rs (Err e) each all = tt

-- each item told what the change does, whatever names the threads had for group and networks
pub each_change : {E : Type 0} (g there : Group) (one two before after : Network) (up down : Entity → Bool) (those : List ℕ) (rs : List (Result Change E))
    → there ≡ g → one ≡ before → two ≡ after → before ≡ up_network g up → after ≡ up_network g down
    → AllZip (λ i (r : Result Change E). (up down : Entity → Bool) → one ≡ up_network there up → two ≡ up_network there down → IfOk r (IsChange there up down i)) those rs
    → AllZip (λ i (r : Result Change E). IfOk r (IsChange g up down i)) those rs
each_change {E} g there one two before after up down those rs same first second is_before is_after each =
    AllZip-weaken _ _ (λ i r told. subst (λ (t : Group). IfOk r (IsChange t up down i)) same
    (told up down (first ∙ is_before ∙ ap (λ (t : Group). up_network t up) (sym same)) (second ∙ is_after ∙ ap (λ (t : Group). up_network t down) (sym same)))) those rs each

-- the open ones from number i on: where i is known, and where it is open
abbrev is_open : List Bool → ℕ → Bool
is_open known i = not (slice_index_or known i false)

rest_known : (known : List Bool) (i n : ℕ) → i < n → slice_index_or known i false ≡ true → filter (is_open known) (range_with_len i (n - i)) ≡ filter (is_open known) (range_with_len (i + 1) (n - (i + 1)))
rest_known known i n low is = let next : n - i ≡ suc (n - (i + 1)) = omega arith in rw (next, is) refl

rest_open : (known : List Bool) (i n : ℕ) → i < n → slice_index_or known i false ≡ false → filter (is_open known) (range_with_len i (n - i)) ≡ i ∷ filter (is_open known) (range_with_len (i + 1) (n - (i + 1)))
rest_open known i n low is = let next : n - i ≡ suc (n - (i + 1)) = omega arith in rw (next, is) refl

-- the open ones are numbers of asks
pub open_below : (known : List Bool) (i n most : ℕ) → All (λ k. k < n) (take most (open_from known i n))
open_below known i n most = All-take (λ k. k < n) most (open_from known i n) (All-filter (is_open known) (λ k. k < n) (range_with_len i (n - i)) (λ k d low.
    let count = length-range_with_len i (n - i) in
    let at = get_or-range_with_len i (n - i) k d (omega (arith, low, count)) in
    omega (arith, at, low, count)))

-- the first of the open ones from an open one on is there
pub open_some : (known : List Bool) (i n most : ℕ) → i < n → slice_index_or known i false ≡ false → 0 < most → 0 < length (take most (open_from known i n))
open_some known i n zero low unmarked some = absurd (omega (arith, some))
open_some known i n (suc most) low unmarked some = rw (rest_open known i n low unmarked) (omega arith)

-- as many of a list as its first ones are
take_as_many : {X : Type 0} (xs : List X) (m : ℕ) → take (length (take m xs)) xs ≡ take m xs
take_as_many [] zero = refl
take_as_many [] (suc m) = refl
take_as_many (x ∷ xs) zero = refl
take_as_many (x ∷ xs) (suc m) = ap (λ ys. x ∷ ys) (take_as_many xs m)

-- what was judged together is judged ahead
pub filled : (g : Group) (before after : Entity → Bool) (those : List ℕ) (most : ℕ) (changes : List Change) → AllZip (IsChange g before after) (take most those) changes → length changes ≡ length (take most those) → AllZip (IsChange g before after) (take (length changes - 0) those) (drop 0 changes)
filled g before after those most changes each count =
    let whole : length changes - 0 ≡ length changes = omega arith in
    let these : take (length changes - 0) those ≡ take most those = ap (λ n. take n those) (whole ∙ count) ∙ take_as_many those most in
    subst (λ (l : List ℕ). AllZip (IsChange g before after) l changes) (sym these) each

-- an ask that is known is passed over
pub ahead_known : (g : Group) (before after : Entity → Bool) (known : List Bool) (i : ℕ) (ahead : Ahead) → i < ask_count g → slice_index_or known i false ≡ true → IsAheadAt g before after known i ahead → IsAheadAt g before after known (i + 1) ahead
ahead_known g before after known i ahead low mark is = record {
  networks = is.networks;
  place = is.place;
  most = is.most;
  changes = subst (λ (those : List ℕ). AllZip (IsChange g before after) (take (length ahead.changes.items - ahead.place) those) (drop ahead.place ahead.changes.items)) (rest_known known i (ask_count g) low mark) is.changes;
}

-- the next one that is judged ahead is of an open ask, and the rest of those behind it
first_ahead : (g : Group) (before after : Entity → Bool) (known : List Bool) (i : ℕ) (ahead : Ahead) (change : Change) → i < ask_count g → slice_index_or known i false ≡ false → ahead.place < length ahead.changes.items → change ≡ slice_index_or ahead.changes.items ahead.place change → IsAheadAt g before after known i ahead
    → IsChange g before after i change × AllZip (IsChange g before after) (take (length ahead.changes.items - (ahead.place + 1)) (open_from known (i + 1) (ask_count g))) (drop (ahead.place + 1) ahead.changes.items)
first_ahead g before after known i ahead change low unmarked within at is =
    let one_more : length ahead.changes.items - ahead.place ≡ suc (length ahead.changes.items - (ahead.place + 1)) = omega (arith, within) in
    let next = drop_more ahead.changes.items ahead.place change within ∙ ap (λ x. x ∷ drop (ahead.place + 1) ahead.changes.items) (sym at) in
    let those = rest_open known i (ask_count g) low unmarked in
    rw (one_more, those, next) at is.changes

pub change_ahead : (g : Group) (before after : Entity → Bool) (known : List Bool) (i : ℕ) (ahead : Ahead) (change : Change) → i < ask_count g → slice_index_or known i false ≡ false → ahead.place < length ahead.changes.items → change ≡ slice_index_or ahead.changes.items ahead.place change → IsAheadAt g before after known i ahead → IsChange g before after i change
change_ahead g before after known i ahead change low unmarked within at is = (first_ahead g before after known i ahead change low unmarked within at is).0

pub ahead_open : (g : Group) (before after : Entity → Bool) (known : List Bool) (i : ℕ) (ahead next : Ahead) (change : Change) → i < ask_count g → slice_index_or known i false ≡ false → ahead.place < length ahead.changes.items → change ≡ slice_index_or ahead.changes.items ahead.place change → IsAheadAt g before after known i ahead
    → next ≡ record { networks = ahead.networks; changes = ahead.changes; place = ahead.place + 1; most = ahead.most } → IsAheadAt g before after known (i + 1) next
ahead_open g before after known i ahead next change low unmarked within at is same = rw same (record {
  networks = is.networks;
  place = omega (arith, within);
  most = is.most;
  changes = (first_ahead g before after known i ahead change low unmarked within at is).1;
})

-- an answer more
pub told_more : (g : Group) (after : Entity → Bool) (i : ℕ) (holds : List Bool) (b : Bool) → i < ask_count g → is_kept g after (ask_of g i) ≡ b → holds ≡ take i (map (is_kept g after) (asks g)) → holds ++ b ∷ [] ≡ take (i + 1) (map (is_kept g after) (asks g))
told_more g after i holds b low kept is =
    let count = length-map (asks g) (is_kept g after) in
    let here = get_or-map (is_kept g after) (asks g) i no_promise b low ∙ kept in
    ap (λ (l : List Bool). l ++ b ∷ []) is ∙ ap (λ (x : Bool). take i (map (is_kept g after) (asks g)) ++ x ∷ []) (sym here) ∙ sym (take_more (map (is_kept g after) (asks g)) i b (omega (arith, low, count)))

-- the change breaks the ask: it is the first, and it is told of all up to it
pub breaks_here : (g : Group) (before after : Entity → Bool) (i : ℕ) (broken : Broken) → i < ask_count g → (is_broken g before after (ask_of g i) ≡ true) × (broken ≡ broken_at g after i (ask_of g i)) → first_broken g before after i (drop i (asks g)) ≡ first_broken g before after 0 (asks g) → Some broken ≡ first_broken g before after 0 (asks g)
breaks_here g before after i broken low is first =
    let here : Some broken ≡ (if is_broken g before after (ask_of g i) then Some (broken_at g after i (ask_of g i)) else None) = rw is.0 (ap Some is.1) in
    sym (broken_here g before after i broken low here) ∙ first

fails_after : (kept_before kept_after : Bool) → (kept_before && not kept_after) ≡ true → kept_after ≡ false
fails_after true true is = cc
fails_after true false is = refl
fails_after false true is = cc
fails_after false false is = refl

pub breaks_told : (g : Group) (before after : Entity → Bool) (i : ℕ) (broken : Broken) (holds : List Bool) → i < ask_count g → (is_broken g before after (ask_of g i) ≡ true) × (broken ≡ broken_at g after i (ask_of g i)) → holds ≡ take i (map (is_kept g after) (asks g)) → holds ++ false ∷ [] ≡ take (told_to g (Some broken)) (map (is_kept g after) (asks g))
breaks_told g before after i broken holds low is told =
    told_more g after i holds false low (fails_after (is_kept g before (ask_of g i)) (is_kept g after (ask_of g i)) is.0) told ∙ ap (λ (b : Broken). take (broken_demand g b + 1) (map (is_kept g after) (asks g))) (sym is.1)

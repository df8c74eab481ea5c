-- The order of acts, place by place.
use Rattle.std.proofs.Common.{◌≡◌, ◌≢◌, ℕ, zero, suc, ◌+◌, ◌<◌, ◌≤◌, List, [], ◌∷◌, ◌++◌, length, Bool, true, false, refl, ap, sym, ◌∙◌, arith, set, take, length-set}
use Rattle.std.specs.Prelude.{All, reverse, slice_index_or, nat_lt, ◌==◌, if◌then◌else◌}
use Rattle.std.proofs.Math.Nat.{min-le_left}
use Rattle.std.proofs.Math.Seq.{take-suc, take-append_seam}
use Rattle.std.proofs.lemmas.Bool.Decides.{nat_tests}
use Rattle.std.proofs.lemmas.List.{append_assoc, append-nil, reverse-append, length-reverse, length-take, get_or-set_other, get_or_default}
use Rattle.std.proofs.lemmas.Bool.{lt-ltb, le-ltb}
use Rattle.std.proofs.lemmas.List.Elements.{All-append}
use Rattle.std.proofs.lemmas.Grind.{get_or-set_at}
use Rattle.st_grammar.specs.declared.doc.Script.{Script}
use Rattle.st_grammar.specs.declared.limits.TheConstants.{MAX_ACTS}
use Rattle.st_serial.specs.declared.schedule.Place.{Place}
use Rattle.st_serial.specs.Schedule.{times, act_count, place_at, ordered, lap, laps, schedule, IsTally, IsPlaceIn}

-- an application's count of acts
pub count_at : (apps : List Script) (i : ℕ) (x : Script) → i < length apps → x ≡ slice_index_or apps i x → act_count apps i ≡ length x.acts
count_at [] i x low is = absurd (omega arith)
count_at (app ∷ apps) zero x low is = ap (λ (a : Script). length a.acts) (sym is)
count_at (app ∷ apps) (suc i) x low is = count_at apps i x (omega arith) is

few_by : (n : ℕ) (ms : List ℕ) (b : Bool) → times n ms ≤ length ms → (if b then times n ms + 1 else times n ms) ≤ suc (length ms)
few_by n ms true few = omega (arith, few)
few_by n ms false few = omega (arith, few)

-- a name stands in a list no more often than the list is long
pub times_few : (n : ℕ) (ms : List ℕ) → times n ms ≤ length ms
times_few n [] = omega arith
times_few n (m ∷ ms) = few_by n ms (n == m) (times_few n ms)

-- the names before and with the one of an index, newest first
pub names_next : (order : List ℕ) (i app : ℕ) → i < length order → app ≡ slice_index_or order i app → reverse (take (i + 1) order) ≡ app ∷ reverse (take i order)
names_next order i app low is =
    let one : i + 1 ≡ suc i = omega arith in
    let longer : take (i + 1) order ≡ take i order ++ app ∷ [] = ap (λ n. take n order) one ∙ take-suc order i app low ∙ ap (λ a. take i order ++ a ∷ []) (sym is) in
    ap reverse longer ∙ reverse-append (take i order) (app ∷ [])

same_by : (i n : ℕ) → (i == n) ≡ true → i ≡ n
same_by i n is = grind (arith, nat_tests)

other_by : (i n : ℕ) → (i == n) ≡ false → i ≢ n
other_by i n is same = grind (arith, nat_tests)

counts_by : (tally before : List ℕ) (i app done : ℕ) (b : Bool) → (i == app) ≡ b → app < length tally → done ≡ times app before → slice_index_or tally i 0 ≡ times i before → slice_index_or (set tally app (done + 1)) i 0 ≡ (if b then times i before + 1 else times i before)
counts_by tally before i app done true is low at count =
    let same = same_by i app is in
    get_or-set_at tally app i (done + 1) 0 same low ∙ ap (λ n. n + 1) (at ∙ ap (λ m. times m before) (sym same))
counts_by tally before i app done false is low at count = get_or-set_other tally app i (done + 1) 0 (other_by i app is) ∙ count

-- one name more is counted
pub tally_next : (apps : List Script) (before tally : List ℕ) (app done : ℕ) → IsTally apps before tally → app < length apps → done ≡ times app before → IsTally apps (app ∷ before) (set tally app (done + 1))
tally_next apps before tally app done is low at =
    let within : app < length tally = omega (arith, is.one_each, low) in
    record {
      one_each = length-set tally app (done + 1) ∙ is.one_each;
      counts = λ i few. counts_by tally before i app done (i == app) refl within at (is.counts i few);
    }

-- what a read of the tally gives
pub done_is : (apps : List Script) (before tally : List ℕ) (app done : ℕ) → IsTally apps before tally → app < length apps → done ≡ slice_index_or tally app done → done ≡ times app before
done_is apps before tally app done is low at =
    let within : app < length tally = omega (arith, is.one_each, low) in
    at ∙ get_or_default tally app done 0 within ∙ is.counts app low

-- a place is added
pub ordered_next : (apps : List Script) (old new more : List Place) (before : List ℕ) (app done : ℕ) → old ≡ new ++ ordered apps before → done ≡ times app before → more ≡ old ++ place_at apps app done → more ≡ new ++ ordered apps (app ∷ before)
ordered_next apps old new more before app done was at adds =
    adds ∙ ap (λ ps. ps ++ place_at apps app done) was ∙ ap (λ n. new ++ ordered apps before ++ place_at apps app n) at ∙ append_assoc new (ordered apps before) (place_at apps app (times app before))

pub lap_next : (apps : List Script) (start old more : List Place) (order : List ℕ) (k i done : ℕ) → old ≡ start ++ lap apps order k i → done ≡ times i order → more ≡ old ++ place_at apps i (done + k) → more ≡ start ++ lap apps order k (i + 1)
lap_next apps start old more order k i done was at adds =
    let one : i + 1 ≡ suc i = omega arith in
    adds ∙ ap (λ ps. ps ++ place_at apps i (done + k)) was ∙ ap (λ n. start ++ lap apps order k i ++ place_at apps i (n + k)) at ∙ append_assoc start (lap apps order k i) (place_at apps i (times i order + k)) ∙ ap (λ n. start ++ lap apps order k n) (sym one)

pub laps_next : (apps : List Script) (start old more : List Place) (order : List ℕ) (k : ℕ) → old ≡ start ++ laps apps order k → more ≡ old ++ lap apps order k (length apps) → more ≡ start ++ laps apps order (k + 1)
unfolding laps
laps_next apps start old more order k was adds =
    let one : k + 1 ≡ suc k = omega arith in
    adds ∙ ap (λ ps. ps ++ lap apps order k (length apps)) was ∙ append_assoc start (laps apps order k) (lap apps order k (length apps)) ∙ ap (λ n. start ++ laps apps order n) (sym one)

-- no act is added where there are not so many
pub none_at : (apps : List Script) (i k : ℕ) (x : Script) → i < length apps → x ≡ slice_index_or apps i x → length x.acts ≤ k → place_at apps i k ≡ []
none_at apps i k x low is few =
    let count = count_at apps i x low is in
    let past : nat_lt k (act_count apps i) ≡ false = le-ltb k (act_count apps i) (omega (arith, count, few)) in
    rw past refl

pub one_at : (apps : List Script) (i k : ℕ) (x : Script) → i < length apps → x ≡ slice_index_or apps i x → k < length x.acts → place_at apps i k ≡ record { app = i; act = k } ∷ []
one_at apps i k x low is more =
    let count = count_at apps i x low is in
    let within : nat_lt k (act_count apps i) ≡ true = lt-ltb k (act_count apps i) (omega (arith, count, more)) in
    rw within refl

-- a name stands among the first i names of an order at most i times
pub times_before : (order : List ℕ) (i app : ℕ) → times app (reverse (take i order)) ≤ i
times_before order i app =
    let few = times_few app (reverse (take i order)) in
    let turned = length-reverse (take i order) in
    let short : length (take i order) ≤ i = rw length-take (min-le_left i (length order)) in
    omega (arith, few, turned, short)

-- all places are those of acts
there : (apps : List Script) (i k : ℕ) → k < act_count apps i → i < length apps
there [] i k low = absurd (omega (arith, low))
there (app ∷ apps) zero k low = omega arith
there (app ∷ apps) (suc i) k low = let rest = there apps i k low in omega (arith, rest)

less_by : (k n : ℕ) → nat_lt k n ≡ true → k < n
less_by k n is = grind (arith, nat_tests)

place_by : (apps : List Script) (i k : ℕ) (b : Bool) → nat_lt k (act_count apps i) ≡ b → All (IsPlaceIn apps) (if b then record { app = i; act = k } ∷ [] else [])
place_by apps i k true is zero d low = let few = less_by k (act_count apps i) is in record { app = there apps i k few; act = few }
place_by apps i k true is (suc n) d low = absurd (omega arith)
place_by apps i k false is n d low = absurd (omega arith)

place_within : (apps : List Script) (i k : ℕ) → All (IsPlaceIn apps) (place_at apps i k)
place_within apps i k = place_by apps i k (nat_lt k (act_count apps i)) refl

ordered_within : (apps : List Script) (order : List ℕ) → All (IsPlaceIn apps) (ordered apps order)
ordered_within apps [] = λ k d low. absurd (omega arith)
ordered_within apps (i ∷ before) = All-append (IsPlaceIn apps) (ordered apps before) (place_at apps i (times i before)) (ordered_within apps before) (place_within apps i (times i before))

lap_within : (apps : List Script) (order : List ℕ) (k n : ℕ) → All (IsPlaceIn apps) (lap apps order k n)
lap_within apps order k zero = λ i d low. absurd (omega arith)
lap_within apps order k (suc n) = All-append (IsPlaceIn apps) (lap apps order k n) (place_at apps n (times n order + k)) (lap_within apps order k n) (place_within apps n (times n order + k))

laps_within : (apps : List Script) (order : List ℕ) (n : ℕ) → All (IsPlaceIn apps) (laps apps order n)
unfolding laps
laps_within apps order zero = λ i d low. absurd (omega arith)
laps_within apps order (suc n) = All-append (IsPlaceIn apps) (laps apps order n) (lap apps order n (length apps)) (laps_within apps order n) (lap_within apps order n (length apps))

pub schedule_within : (apps : List Script) (order : List ℕ) → All (IsPlaceIn apps) (schedule apps order)
schedule_within apps order = All-append (IsPlaceIn apps) (ordered apps (reverse order)) (laps apps (reverse order) MAX_ACTS) (ordered_within apps (reverse order)) (laps_within apps (reverse order) MAX_ACTS)

-- the tally of an order is short where the order is
pub tally_short : (apps : List Script) (order tally : List ℕ) (most : ℕ) → IsTally apps order tally → length order < most → All (λ done. done < most) tally
tally_short apps order tally most is few k d low =
    let within : k < length apps = omega (arith, is.one_each, low) in
    let at : slice_index_or tally k d ≡ times k order = get_or_default tally k d 0 low ∙ is.counts k within in
    let short = times_few k order in
    omega (arith, at, short, few)

-- nothing was named yet
pub tally_start : (apps : List Script) (tally : List ℕ) → length tally ≡ length apps → ((k : ℕ) → k < length tally → slice_index_or tally k 0 ≡ 0) → IsTally apps [] tally
tally_start apps tally each zeros = record { one_each = each; counts = λ i low. zeros i (omega (arith, each, low)) }

-- before the first lap none is added
pub laps_start : (apps : List Script) (order : List ℕ) (places : List Place) → places ≡ places ++ laps apps order 0
unfolding laps
laps_start apps order places = sym (append-nil places)

-- what a slice of the whole list became is the whole list
pub whole_tally : (n : ℕ) (tally rest : List ℕ) → n ≡ length tally → take n (tally ++ rest) ≡ tally
whole_tally n tally rest is = ap (λ m. take m (tally ++ rest)) is ∙ take-append_seam tally rest

-- The up links that leave a cut of least value lead into what is joined to its far end: else a cut of less value were left.
use Rattle.std.proofs.Common.{◌≡◌, ◌∙◌, ℕ, zero, suc, ◌+◌, ◌-◌, ◌<◌, ◌≤◌, true, false, Bool, true≢false, List, [], ◌∷◌, ◌++◌, length, refl, sym, ap, ap₂, subst, inl, inr, arith}
use Rattle.std.specs.Prelude.{◌&&◌, ◌||◌, ◌==◌, ◌⊎◌, not, nat_lt, if◌then◌else◌, slice_index_or}
use Rattle.std.specs.List.{sum_by}
use Rattle.std.proofs.lemmas.Bool.Decides.{nat_tests}
use Rattle.std.proofs.lemmas.List.Sums.{sum_by-cons}
use mathlib.Core.Path.{fun_ext}
use Rattle.st_net.specs.declared.entity.Entity.{Entity}
use Rattle.st_net.specs.declared.topo.LinkOpening.{LinkOpening}
use Rattle.st_net.specs.Cuts.{IsCut, cut_value, cut_value_from, is_crossing, least_cut, numbers_in}
use Rattle.st_net.specs.Groups.{AreLinks, Group, no_link}
use Rattle.st_net.specs.UpGraph.{is_up_link}
use Rattle.st_net.proofs.WalkLaws.{least_cut-below}
use Rattle.st_player.specs.Cuts.{crossing_links, is_device_of, is_far, is_joined_from, is_near, is_one_across, is_one_of, joins, links_from, with_joined}
use Rattle.st_player.proofs.CutLemmas.{still}

-- how many numbers below n are in a set
abbrev count_below : ℕ → (ℕ → Bool) → ℕ
count_below zero set = 0
count_below (suc n) set = count_below n set + (if set n then 1 else 0)

count_few : (n : ℕ) (set : ℕ → Bool) → count_below n set ≤ n
count_few zero set = omega arith
count_few (suc n) set = by_last (set n) (count_few n set)
  where
    by_last : (here : Bool) → count_below n set ≤ n → count_below n set + (if here then 1 else 0) ≤ suc n
    by_last true few = omega (arith, few)
    by_last false few = omega (arith, few)

abbrev AreSameBelow : ℕ → (ℕ → Bool) → (ℕ → Bool) → Type 0
AreSameBelow n set more = (d : ℕ) → d < n → set d ≡ more d

-- a set in another has the same numbers below n, or fewer
grows : (n : ℕ) (set more : ℕ → Bool) → ((d : ℕ) → set d ≡ true → more d ≡ true) → AreSameBelow n set more × (count_below n set ≡ count_below n more) ⊎ (count_below n set < count_below n more)
grows zero set more within = inl (λ d low. absurd (omega (arith, low)), refl)
grows (suc n) set more within = by_last (set n) (more n) refl refl (within n) (grows n set more within)
  where
    one_more : set n ≡ more n → AreSameBelow n set more → AreSameBelow (suc n) set more
    one_more here same d low = by_place (d == n) refl
      where
        by_place : (last : Bool) → (d == n) ≡ last → set d ≡ more d
        by_place true is = let at : n ≡ d = grind (arith, nat_tests) in subst (λ (k : ℕ). set k ≡ more k) at here
        by_place false is = same d (grind (arith, nat_tests))

    by_last : (a b : Bool) → set n ≡ a → more n ≡ b → (set n ≡ true → more n ≡ true) → AreSameBelow n set more × (count_below n set ≡ count_below n more) ⊎ (count_below n set < count_below n more)
        → AreSameBelow (suc n) set more × (count_below n set + (if set n then 1 else 0) ≡ count_below n more + (if more n then 1 else 0)) ⊎ (count_below n set + (if set n then 1 else 0) < count_below n more + (if more n then 1 else 0))
    by_last true true a_is b_is into (inl same) = inl (one_more (a_is ∙ sym b_is) same.0, rw (a_is, b_is) (ap (λ (k : ℕ). k + 1) same.1))
    by_last true true a_is b_is into (inr less) = inr (rw (a_is, b_is) (omega (arith, less)))
    by_last true false a_is b_is into rest = absurd (true≢false (sym (into a_is) ∙ b_is))
    by_last false true a_is b_is into (inl same) = inr (rw (a_is, b_is) (omega (arith, same.1)))
    by_last false true a_is b_is into (inr less) = inr (rw (a_is, b_is) (omega (arith, less)))
    by_last false false a_is b_is into (inl same) = inl (one_more (a_is ∙ sym b_is) same.0, rw (a_is, b_is) (ap (λ (k : ℕ). k + 0) same.1))
    by_last false false a_is b_is into (inr less) = inr (rw (a_is, b_is) (omega (arith, less)))

-- devices that a group does not have are joined to nothing
joined_high : (n i : ℕ) (links : List LinkOpening) (up : Entity → Bool) (set : ℕ → Bool) (d : ℕ) → AreLinks n links → n ≤ d → is_joined_from i links up set d ≡ false
joined_high n i [] up set d are high = refl
joined_high n i (link ∷ links) up set d are high =
    let a : (link.a == d) ≡ false = apart link.a are.0.a_in in
    let b : (link.b == d) ≡ false = apart link.b are.0.b_in in
    rw (a, b, joined_high n (suc i) links up set d are.1 high) (none (is_up_link up i link))
  where
    apart : (end : ℕ) → end < n → (end == d) ≡ false
    apart end low = grind (arith, nat_tests)

    none : (is_up : Bool) → ((is_up && false) || false) ≡ false
    none true = refl
    none false = refl

near_high : (g : Group) (up : Entity → Bool) (side : ℕ → Bool) (b n d : ℕ) → AreLinks (length g.devices) g.links → length g.devices ≤ d → is_near g up side b n d ≡ false
near_high g up side b zero d are high = let none : nat_lt d (length g.devices) ≡ false = grind (arith, nat_tests) in rw none refl
near_high g up side b (suc n) d are high =
    rw (near_high g up side b n d are high, joined_high (length g.devices) 0 g.links up (is_near g up side b n) d are high) (none (not (side d)))
  where
    none : (out : Bool) → (out && false) ≡ false
    none true = refl
    none false = refl

-- each walk of one link more joins what was joined
near_within : (g : Group) (up : Entity → Bool) (side : ℕ → Bool) (b n d : ℕ) → is_near g up side b n d ≡ true → is_near g up side b (suc n) d ≡ true
near_within g up side b n d is = rw is refl

near_same : (g : Group) (up : Entity → Bool) (side : ℕ → Bool) (b n : ℕ) → AreLinks (length g.devices) g.links → AreSameBelow (length g.devices) (is_near g up side b n) (is_near g up side b (suc n)) → is_near g up side b (suc n) ≡ is_near g up side b n
near_same g up side b n are same = fun_ext (λ d. by_place d (nat_lt d (length g.devices)) refl)
  where
    by_place : (d : ℕ) (low : Bool) → nat_lt d (length g.devices) ≡ low → is_near g up side b (suc n) d ≡ is_near g up side b n d
    by_place d true is = sym (same d (grind (arith, nat_tests)))
    by_place d false is =
        let high : length g.devices ≤ d = grind (arith, nat_tests) in
        near_high g up side b (suc n) d are high ∙ sym (near_high g up side b n d are high)

-- walks stop to join more, or join more than k devices
record Stops (g : Group) (up : Entity → Bool) (side : ℕ → Bool) (b k : ℕ) : Type 0 where
  at : ℕ
  early : at ≤ k
  stays : is_near g up side b (suc at) ≡ is_near g up side b at

stops_or_grows : (g : Group) (up : Entity → Bool) (side : ℕ → Bool) (b k : ℕ) → AreLinks (length g.devices) g.links → Stops g up side b k ⊎ (k < count_below (length g.devices) (is_near g up side b (suc k)))
stops_or_grows g up side b zero are = by_count (grows (length g.devices) (is_near g up side b zero) (is_near g up side b (suc zero)) (near_within g up side b zero))
  where
    by_count : AreSameBelow (length g.devices) (is_near g up side b zero) (is_near g up side b (suc zero)) × (count_below (length g.devices) (is_near g up side b zero) ≡ count_below (length g.devices) (is_near g up side b (suc zero))) ⊎ (count_below (length g.devices) (is_near g up side b zero) < count_below (length g.devices) (is_near g up side b (suc zero)))
        → Stops g up side b zero ⊎ (zero < count_below (length g.devices) (is_near g up side b (suc zero)))
    by_count (inl same) = inl (record { at = zero; early = omega arith; stays = near_same g up side b zero are same.0 })
    by_count (inr less) = inr (omega (arith, less))
stops_or_grows g up side b (suc k) are = by_before (stops_or_grows g up side b k are) (grows (length g.devices) (is_near g up side b (suc k)) (is_near g up side b (suc (suc k))) (near_within g up side b (suc k)))
  where
    by_before : Stops g up side b k ⊎ (k < count_below (length g.devices) (is_near g up side b (suc k)))
        → AreSameBelow (length g.devices) (is_near g up side b (suc k)) (is_near g up side b (suc (suc k))) × (count_below (length g.devices) (is_near g up side b (suc k)) ≡ count_below (length g.devices) (is_near g up side b (suc (suc k)))) ⊎ (count_below (length g.devices) (is_near g up side b (suc k)) < count_below (length g.devices) (is_near g up side b (suc (suc k))))
        → Stops g up side b (suc k) ⊎ (suc k < count_below (length g.devices) (is_near g up side b (suc (suc k))))
    by_before (inl stops) next = inl (record { at = stops.at; early = omega (arith, stops.early); stays = stops.stays })
    by_before (inr more) (inl same) = inl (record { at = suc k; early = omega arith; stays = near_same g up side b (suc k) are same.0 })
    by_before (inr more) (inr less) = inr (omega (arith, more, less))

-- so one link more leads no further than as many links as there are devices
far_closed : (g : Group) (up : Entity → Bool) (side : ℕ → Bool) (b : ℕ) → AreLinks (length g.devices) g.links → with_joined g up side (is_far g up side b) ≡ is_far g up side b
unfolding is_far
far_closed g up side b are = by_count (stops_or_grows g up side b (length g.devices) are)
  where
    n : ℕ
    n = length g.devices

    by_count : Stops g up side b n ⊎ (n < count_below n (is_near g up side b (suc n))) → with_joined g up side (is_near g up side b n) ≡ is_near g up side b n
    by_count (inl stops) =
        still g up side b stops.at (suc n - stops.at) (suc n) (omega (arith, stops.early)) stops.stays
        ∙ sym (still g up side b stops.at (n - stops.at) n (omega (arith, stops.early)) stops.stays)
    by_count (inr more) = absurd (omega (arith, more, count_few n (is_near g up side b (suc n))))

-- what is joined to the far end is outside the side
near_outside : (g : Group) (up : Entity → Bool) (side : ℕ → Bool) (b n d : ℕ) → is_near g up side b n d ≡ true → side d ≡ false
near_outside g up side b zero d is = outside (nat_lt d (length g.devices)) (d == b) (side d) is
  where
    outside : (low at in_side : Bool) → (low && (at && not in_side)) ≡ true → in_side ≡ false
    outside true true true is = absurd (true≢false (sym is))
    outside true true false is = refl
    outside true false in_side is = absurd (true≢false (sym is))
    outside false at in_side is = absurd (true≢false (sym is))
near_outside g up side b (suc n) d is = by_near (is_near g up side b n d) refl (near_outside g up side b n d) (side d) refl is
  where
    by_near : (near : Bool) → is_near g up side b n d ≡ near → (is_near g up side b n d ≡ true → side d ≡ false) → (in_side : Bool) → side d ≡ in_side → (near || (not in_side && is_joined_from 0 g.links up (is_near g up side b n) d)) ≡ true → side d ≡ false
    by_near true near_is before in_side side_is is = before near_is
    by_near false near_is before true side_is is = absurd (true≢false (sym is))
    by_near false near_is before false side_is is = side_is

far_outside : (g : Group) (up : Entity → Bool) (side : ℕ → Bool) (b d : ℕ) → is_far g up side b d ≡ true → side d ≡ false
unfolding is_far
far_outside g up side b d is = near_outside g up side b (length g.devices) d is

near_end : (g : Group) (up : Entity → Bool) (side : ℕ → Bool) (b n : ℕ) → b < length g.devices → side b ≡ false → is_near g up side b n b ≡ true
near_end g up side b zero low out =
    let here : nat_lt b (length g.devices) ≡ true = grind (arith, nat_tests) in
    let same : (b == b) ≡ true = grind (arith, nat_tests) in
    rw (here, same, out) refl
near_end g up side b (suc n) low out = near_within g up side b n b (near_end g up side b n low out)

far_end : (g : Group) (up : Entity → Bool) (side : ℕ → Bool) (b : ℕ) → b < length g.devices → side b ≡ false → is_far g up side b b ≡ true
unfolding is_far
far_end g up side b low out = near_end g up side b (length g.devices) low out

far_low : (g : Group) (up : Entity → Bool) (side : ℕ → Bool) (b d : ℕ) → AreLinks (length g.devices) g.links → length g.devices ≤ d → is_far g up side b d ≡ false
unfolding is_far
far_low g up side b d are high = near_high g up side b (length g.devices) d are high

-- a link joins its ends
joined_at : (i k : ℕ) (links : List LinkOpening) (up : Entity → Bool) (set : ℕ → Bool) (d : ℕ) → k < length links → joins up set d (i + k) (slice_index_or links k no_link) ≡ true → is_joined_from i links up set d ≡ true
joined_at i k [] up set d low is = absurd (omega (arith, low))
joined_at i zero (link ∷ links) up set d low is =
    let here : i + zero ≡ i = omega arith in
    rw (sym (ap (λ (j : ℕ). joins up set d j link) here) ∙ is) refl
joined_at i (suc k) (link ∷ links) up set d low is =
    let here : i + suc k ≡ suc i + k = omega arith in
    rw (joined_at (suc i) k links up set d (omega (arith, low)) (sym (ap (λ (j : ℕ). joins up set d j (slice_index_or links k no_link)) here) ∙ is)) (or_true (joins up set d i link))
  where
    or_true : (first : Bool) → (first || true) ≡ true
    or_true true = refl
    or_true false = refl

-- an end outside the side of an up link is far where the other is
far_other : (g : Group) (up : Entity → Bool) (side : ℕ → Bool) (b i d : ℕ) → AreLinks (length g.devices) g.links → i < length g.links → joins up (is_far g up side b) d i (slice_index_or g.links i no_link) ≡ true → side d ≡ false → is_far g up side b d ≡ true
far_other g up side b i d are low joined out =
    let here : zero + i ≡ i = omega arith in
    let some : is_joined_from 0 g.links up (is_far g up side b) d ≡ true =
    joined_at 0 i g.links up (is_far g up side b) d low (ap (λ (j : ℕ). joins up (is_far g up side b) d j (slice_index_or g.links i no_link)) here ∙ joined) in
    sym (ap (λ (set : ℕ → Bool). set d) (far_closed g up side b are)) ∙ rw (out, some) (or_true (is_far g up side b d))
  where
    or_true : (first : Bool) → (first || true) ≡ true
    or_true true = refl
    or_true false = refl

-- an up link that leaves what is far leaves the side
far_crossing : (g : Group) (up : Entity → Bool) (side : ℕ → Bool) (b i : ℕ) → AreLinks (length g.devices) g.links → i < length g.links → is_up_link up i (slice_index_or g.links i no_link) ≡ true
    → is_crossing (is_far g up side b) (slice_index_or g.links i no_link) ≡ true → is_crossing side (slice_index_or g.links i no_link) ≡ true
far_crossing g up side b i are low is_up crosses = by_ends (far link.a) refl (far link.b) refl (side link.a) refl (side link.b) refl
  where
    link : LinkOpening
    link = slice_index_or g.links i no_link

    far : ℕ → Bool
    far = is_far g up side b

    same : (n : ℕ) → (n == n) ≡ true
    same n = grind (arith, nat_tests)

    to_a : far link.b ≡ true → joins up far link.a i link ≡ true
    to_a is = rw (is_up, same link.a, is) refl

    to_b : far link.a ≡ true → joins up far link.b i link ≡ true
    to_b is = rw (is_up, same link.b, is) (or_true (link.a == link.b && far link.b))
      where
        or_true : (first : Bool) → (first || true) ≡ true
        or_true true = refl
        or_true false = refl

    crosses_by : (far_a far_b : Bool) → far link.a ≡ far_a → far link.b ≡ far_b → (if far_a then not far_b else far_b) ≡ true
    crosses_by far_a far_b a_is b_is = ap₂ (λ (p q : Bool). if p then not q else q) (sym a_is) (sym b_is) ∙ crosses

    by_ends : (far_a : Bool) → far link.a ≡ far_a → (far_b : Bool) → far link.b ≡ far_b → (side_a : Bool) → side link.a ≡ side_a → (side_b : Bool) → side link.b ≡ side_b → (if side link.a then not (side link.b) else side link.b) ≡ true
    by_ends true fa true fb sa sa_is sb sb_is = absurd (true≢false (sym (crosses_by true true fa fb)))
    by_ends false fa false fb sa sa_is sb sb_is = absurd (true≢false (sym (crosses_by false false fa fb)))
    by_ends true fa false fb true sa_is sb sb_is = absurd (true≢false (sym sa_is ∙ far_outside g up side b link.a fa))
    by_ends true fa false fb false sa_is true sb_is = rw (sa_is, sb_is) refl
    by_ends true fa false fb false sa_is false sb_is = absurd (true≢false (sym (far_other g up side b i link.b are low (to_b fa) sb_is) ∙ fb))
    by_ends false fa true fb sa sa_is true sb_is = absurd (true≢false (sym sb_is ∙ far_outside g up side b link.b fb))
    by_ends false fa true fb true sa_is false sb_is = rw (sa_is, sb_is) refl
    by_ends false fa true fb false sa_is false sb_is = absurd (true≢false (sym (far_other g up side b i link.a are low (to_a fb) sa_is) ∙ fa))

-- a set and its complement have the same links across
turned_crossing : (set : ℕ → Bool) (link : LinkOpening) → is_crossing (λ d. not (set d)) link ≡ is_crossing set link
turned_crossing set link = by_ends (set link.a) (set link.b)
  where
    by_ends : (a b : Bool) → (if not a then not (not b) else not b) ≡ (if a then not b else b)
    by_ends true true = refl
    by_ends true false = refl
    by_ends false true = refl
    by_ends false false = refl

turned_value : (i : ℕ) (links : List LinkOpening) (up : Entity → Bool) (set : ℕ → Bool) → cut_value_from i links up (λ d. not (set d)) ≡ cut_value_from i links up set
turned_value i [] up set = refl
turned_value i (link ∷ links) up set = ap₂ (λ (across : Bool) (rest : ℕ). (if is_up_link up i link && across then link.capacity else 0) + rest) (turned_crossing set link) (turned_value (i + 1) links up set)

-- where each up link across one set is across another, and the values are as great, the links are the same
abbrev IsAcrossToo : ℕ → List LinkOpening → (Entity → Bool) → (ℕ → Bool) → (ℕ → Bool) → Type 0
IsAcrossToo i links up set other = (k : ℕ) → k < length links → is_up_link up (i + k) (slice_index_or links k no_link) ≡ true → is_crossing set (slice_index_or links k no_link) ≡ true → is_crossing other (slice_index_or links k no_link) ≡ true

first_across : (i : ℕ) (link : LinkOpening) (links : List LinkOpening) (up : Entity → Bool) (set other : ℕ → Bool) → IsAcrossToo i (link ∷ links) up set other → is_up_link up i link ≡ true → is_crossing set link ≡ true → is_crossing other link ≡ true
first_across i link links up set other too is_up across =
    let here : i ≡ i + zero = omega arith in
    too zero (omega arith) (sym (ap (λ (j : ℕ). is_up_link up j link) here) ∙ is_up) across

rest_across : (i j : ℕ) (link : LinkOpening) (links : List LinkOpening) (up : Entity → Bool) (set other : ℕ → Bool) → j ≡ i + 1 → IsAcrossToo i (link ∷ links) up set other → IsAcrossToo j links up set other
rest_across i j link links up set other next too k low is_up across =
    let here : j + k ≡ i + suc k = omega (arith, next) in
    too (suc k) (omega (arith, low)) (sym (ap (λ (m : ℕ). is_up_link up m (slice_index_or links k no_link)) here) ∙ is_up) across

part_less : (is_up across other : Bool) (c : ℕ) → (is_up ≡ true → across ≡ true → other ≡ true) → (if is_up && across then c else 0) ≤ (if is_up && other then c else 0)
part_less true true other c too = rw (too refl refl) (omega arith)
part_less true false other c too = omega arith
part_less false across other c too = omega arith

value_less : (i : ℕ) (links : List LinkOpening) (up : Entity → Bool) (set other : ℕ → Bool) → IsAcrossToo i links up set other → cut_value_from i links up set ≤ cut_value_from i links up other
value_less i [] up set other too = omega arith
value_less i (link ∷ links) up set other too =
    let part = part_less (is_up_link up i link) (is_crossing set link) (is_crossing other link) link.capacity (first_across i link links up set other too) in
    let rest = value_less (i + 1) links up set other (rest_across i (i + 1) link links up set other refl too) in
    omega (arith, part, rest)

part_same : (is_up across other : Bool) (c rest more : ℕ) → 1 ≤ c → (is_up ≡ true → across ≡ true → other ≡ true) → rest ≤ more → (if is_up && other then c else 0) + more ≤ (if is_up && across then c else 0) + rest
    → ((is_up && other) ≡ (is_up && across)) × (more ≤ rest)
part_same true true true c rest more some too less great = (refl, omega (arith, great))
part_same true true false c rest more some too less great = absurd (true≢false (sym (too refl refl)))
part_same true false true c rest more some too less great = absurd (omega (arith, some, less, great))
part_same true false false c rest more some too less great = (refl, omega (arith, great))
part_same false across other c rest more some too less great = (refl, omega (arith, great))

same_across : (n i : ℕ) (links : List LinkOpening) (up : Entity → Bool) (set other : ℕ → Bool) → AreLinks n links → IsAcrossToo i links up set other → cut_value_from i links up other ≤ cut_value_from i links up set
    → links_from i (is_one_across up true other) links ≡ links_from i (is_one_across up true set) links
same_across n i [] up set other are too great = refl
same_across n i (link ∷ links) up set other are too great =
    let next : i + 1 ≡ suc i = omega arith in
    let less = value_less (i + 1) links up set other (rest_across i (i + 1) link links up set other refl too) in
    let part = part_same (is_up_link up i link) (is_crossing set link) (is_crossing other link) link.capacity (cut_value_from (i + 1) links up set) (cut_value_from (i + 1) links up other) are.0.carries (first_across i link links up set other too) less great in
    let great_on : cut_value_from (suc i) links up other ≤ cut_value_from (suc i) links up set = subst (λ (j : ℕ). cut_value_from j links up other ≤ cut_value_from j links up set) next part.1 in
    ap₂ (λ (is : Bool) (rest : List ℕ). if is then i ∷ rest else rest) part.0
    (same_across n (suc i) links up set other are.1 (rest_across i (suc i) link links up set other (sym next) too) great_on)

-- the capacities of the links across a set are its value
pub across_sum : (capacity : ℕ → ℕ) (i : ℕ) (links : List LinkOpening) (up : Entity → Bool) (set : ℕ → Bool) → ((k : ℕ) → k < length links → capacity (i + k) ≡ (slice_index_or links k no_link).capacity)
    → sum_by capacity (links_from i (is_one_across up true set) links) ≡ cut_value_from i links up set
across_sum capacity i [] up set are = refl
across_sum capacity i (link ∷ links) up set are =
    let next : suc i ≡ i + 1 = omega arith in
    let rest : sum_by capacity (links_from (suc i) (is_one_across up true set) links) ≡ cut_value_from (i + 1) links up set =
    across_sum capacity (suc i) links up set later ∙ ap (λ (j : ℕ). cut_value_from j links up set) next in
    by_test (is_up_link up i link && is_crossing set link) rest
  where
    later : (k : ℕ) → k < length links → capacity (suc i + k) ≡ (slice_index_or links k no_link).capacity
    later k low = let here : suc i + k ≡ i + suc k = omega arith in ap capacity here ∙ are (suc k) (omega (arith, low))

    first : capacity i ≡ link.capacity
    first = let here : i ≡ i + zero = omega arith in ap capacity here ∙ are zero (omega arith)

    by_test : (is : Bool) → sum_by capacity (links_from (suc i) (is_one_across up true set) links) ≡ cut_value_from (i + 1) links up set
        → sum_by capacity (if is then i ∷ links_from (suc i) (is_one_across up true set) links else links_from (suc i) (is_one_across up true set) links) ≡ (if is then link.capacity else 0) + cut_value_from (i + 1) links up set
    by_test true rest = sum_by-cons capacity i (links_from (suc i) (is_one_across up true set) links) ∙ ap₂ (λ (m n : ℕ). m + n) first rest
    by_test false rest = rest ∙ omega arith

-- the links across a set are those that are up and those that are not
pub across_count : (i : ℕ) (links : List LinkOpening) (up : Entity → Bool) (set : ℕ → Bool)
    → length (links_from i (is_one_across up true set) links) + length (links_from i (is_one_across up false set) links) ≡ length (links_from i (λ j link. is_crossing set link) links)
across_count i [] up set = refl
across_count i (link ∷ links) up set = by_tests (is_up_link up i link) (is_crossing set link) (across_count (suc i) links up set)
  where
    ups : List ℕ
    ups = links_from (suc i) (is_one_across up true set) links

    downs : List ℕ
    downs = links_from (suc i) (is_one_across up false set) links

    all : List ℕ
    all = links_from (suc i) (λ j link. is_crossing set link) links

    by_tests : (is_up across : Bool) → length ups + length downs ≡ length all
        → length (if is_up && across then i ∷ ups else ups) + length (if not is_up && across then i ∷ downs else downs) ≡ length (if across then i ∷ all else all)
    by_tests true true rest = omega (arith, rest)
    by_tests true false rest = rest
    by_tests false true rest = omega (arith, rest)
    by_tests false false rest = rest

-- the numbers of a set, as a set of devices
one_of_more : (ns ms : List ℕ) (d : ℕ) → is_one_of (ns ++ ms) d ≡ (is_one_of ns d || is_one_of ms d)
one_of_more [] ms d = refl
one_of_more (n ∷ ns) ms d = ap (λ (rest : Bool). n == d || rest) (one_of_more ns ms d) ∙ or_assoc (n == d) (is_one_of ns d) (is_one_of ms d)
  where
    or_assoc : (p q r : Bool) → (p || (q || r)) ≡ ((p || q) || r)
    or_assoc true q r = refl
    or_assoc false q r = refl

one_of_numbers : (n : ℕ) (set : ℕ → Bool) (d : ℕ) → is_one_of (numbers_in n set) d ≡ (nat_lt d n && set d)
one_of_numbers zero set d = let none : nat_lt d 0 ≡ false = grind (arith, nat_tests) in rw none refl
one_of_numbers (suc n) set d =
    one_of_more (numbers_in n set) (if set n then n ∷ [] else []) d
    ∙ (ap (λ (before : Bool). before || is_one_of (if set n then n ∷ [] else []) d) (one_of_numbers n set d)
    ∙ by_place (n == d) refl (nat_lt d n) refl)
  where
    last : (is : Bool) → (n == d) ≡ true → is_one_of (if is then n ∷ [] else []) d ≡ is
    last true same = rw same refl
    last false same = refl

    other : (is : Bool) → (n == d) ≡ false → is_one_of (if is then n ∷ [] else []) d ≡ false
    other true apart = rw apart refl
    other false apart = refl

    or_none : (p : Bool) → (p || false) ≡ p
    or_none true = refl
    or_none false = refl

    by_place : (same : Bool) → (n == d) ≡ same → (low : Bool) → nat_lt d n ≡ low → ((nat_lt d n && set d) || is_one_of (if set n then n ∷ [] else []) d) ≡ (nat_lt d (suc n) && set d)
    by_place true same true low = absurd (clash same low)
      where
        clash : (n == d) ≡ true → nat_lt d n ≡ true → ⊥
        clash same low = let at : n ≡ d = grind (arith, nat_tests) in let under : d < n = grind (arith, nat_tests) in omega (arith, at, under)
    by_place true same false low =
        let next : nat_lt d (suc n) ≡ true = grind (arith, nat_tests) in
        let at : n ≡ d = grind (arith, nat_tests) in
        rw (low, next) (last (set n) same ∙ ap set at)
    by_place false same true low =
        let next : nat_lt d (suc n) ≡ true = grind (arith, nat_tests) in
        rw (low, next, other (set n) same) (or_none (set d))
    by_place false same false low =
        let next : nat_lt d (suc n) ≡ false = grind (arith, nat_tests) in
        rw (low, next, other (set n) same) refl

pub numbers_devices : (g : Group) (set : ℕ → Bool) (d : ℕ) → is_device_of g (numbers_in (length g.devices) set) d ≡ (nat_lt d (length g.devices) && set d)
numbers_devices g set d = ap (λ (is : Bool). nat_lt d (length g.devices) && is) (one_of_numbers (length g.devices) set d) ∙ twice (nat_lt d (length g.devices)) (set d)
  where
    twice : (p q : Bool) → (p && (p && q)) ≡ (p && q)
    twice true q = refl
    twice false q = refl

pub far_devices : (g : Group) (up : Entity → Bool) (side : ℕ → Bool) (b : ℕ) → AreLinks (length g.devices) g.links → is_device_of g (numbers_in (length g.devices) (is_far g up side b)) ≡ is_far g up side b
far_devices g up side b are = fun_ext (λ d. numbers_devices g (is_far g up side b) d ∙ by_place d (nat_lt d (length g.devices)) refl)
  where
    by_place : (d : ℕ) (low : Bool) → nat_lt d (length g.devices) ≡ low → (low && is_far g up side b d) ≡ is_far g up side b d
    by_place d true is = refl
    by_place d false is = let high : length g.devices ≤ d = grind (arith, nat_tests) in sym (far_low g up side b d are high)

-- the up links that leave a side of least value are those that leave what is joined to its far end
pub far_left : (g : Group) (up : Entity → Bool) (a b : ℕ) (side : ℕ → Bool) → AreLinks (length g.devices) g.links → b < length g.devices → IsCut side a b → cut_value g.links up side ≡ least_cut (length g.devices) g.links up a b
    → crossing_links g up true side ≡ crossing_links g up true (is_far g up side b)
far_left g up a b side are low cut least =
    same_across (length g.devices) 0 g.links up (is_far g up side b) side are too (omega (arith, below, same, least))
  where
    too : IsAcrossToo 0 g.links up (is_far g up side b) side
    too k within is_up across =
        let here : zero + k ≡ k = omega arith in
        far_crossing g up side b k are within (sym (ap (λ (j : ℕ). is_up_link up j (slice_index_or g.links k no_link)) here) ∙ is_up) across

    start : (far : Bool) → is_far g up side b a ≡ far → not far ≡ true
    start true is = absurd (true≢false (sym cut.inside ∙ far_outside g up side b a is))
    start false is = refl

    turned_cut : IsCut (λ d. not (is_far g up side b d)) a b
    turned_cut = record {
      inside = start (is_far g up side b a) refl;
      outside = ap not (far_end g up side b low cut.outside);
    }

    below : least_cut (length g.devices) g.links up a b ≤ cut_value g.links up (λ d. not (is_far g up side b d))
    below = least_cut-below (length g.devices) g.links up a b (λ d. not (is_far g up side b d)) are turned_cut

    same : cut_value g.links up (λ d. not (is_far g up side b d)) ≡ cut_value g.links up (is_far g up side b)
    same = turned_value 0 g.links up (is_far g up side b)

-- A search that is settled has found the least set with its start that no up link leaves.
use Rattle.std.proofs.Common.{◌≡◌, ℕ, zero, suc, ◌+◌, ◌<◌, ◌≤◌, List, [], ◌∷◌, length, refl, ◌∙◌, sym, arith}
use Rattle.std.specs.Prelude.{Bool, true, false, ◌&&◌, ◌==◌, not, Option, Some, None, is_some, MatchOption, slice_index_or, if◌then◌else◌}
use Rattle.std.proofs.lemmas.Bool.Decides.{nat_tests}
use Rattle.st_net.proofs.Tests.{both}
use Rattle.st_net.specs.declared.entity.Entity.{Entity}
use Rattle.st_net.specs.declared.topo.LinkOpening.{LinkOpening}
use Rattle.st_net.specs.Groups.{no_link, AreLinks}
use Rattle.st_net.specs.UpGraph.{is_up_link, is_joint, Leads}
use Rattle.st_net.specs.Cuts.{is_crossing, cut_value_from, cut_value}
use Rattle.st_promise.specs.declared.search.Came.{Came}
use Rattle.st_promise.specs.Search.{Visits, step_at, place_in, is_found, IsSearch, IsSettled}

same_ends : (p q : Bool) → p ≡ q → (if p then not q else q) ≡ false
same_ends true true same = refl
same_ends true false same = cc
same_ends false true same = cc
same_ends false false same = refl

no_part : (p q : Bool) (m : ℕ) → (p ≡ true → q ≡ false) → (if p && q then m else 0) ≡ 0
no_part true q m stays = rw (stays refl) refl
no_part false q m stays = refl

-- where no up link has exactly one end in a set, nothing crosses
zero_from : (at : ℕ) (links : List LinkOpening) (up : Entity → Bool) (side : ℕ → Bool) → ((i : ℕ) → i < length links → is_up_link up (at + i) (slice_index_or links i no_link) ≡ true → side (slice_index_or links i no_link).a ≡ side (slice_index_or links i no_link).b) → cut_value_from at links up side ≡ 0
zero_from at [] up side joined = refl
zero_from at (link ∷ links) up side joined =
    let here : at + zero ≡ at = omega arith in
    let part = no_part (is_up_link up at link) (is_crossing side link) link.capacity (λ is_up. same_ends _ _ (joined zero (omega arith) (rw here is_up))) in
    let later = zero_from (at + 1) links up side (λ i low is_up. joined (suc i) (omega arith) (let same : at + suc i ≡ at + 1 + i = omega arith in rw same is_up)) in
    omega (arith, part, later)

crossing_counts : (p q : Bool) (m rest : ℕ) → p ≡ true → 1 ≤ m → (if p && q then m else 0) + rest ≡ 0 → q ≡ false
crossing_counts true true m rest is some none = absurd (omega arith)
crossing_counts true false m rest is some none = refl
crossing_counts false q m rest is some none = cc

-- where nothing crosses, no up link does
crossing_zero : (at n : ℕ) (links : List LinkOpening) (up : Entity → Bool) (side : ℕ → Bool) (i : ℕ) → AreLinks n links → cut_value_from at links up side ≡ 0 → i < length links → is_up_link up (at + i) (slice_index_or links i no_link) ≡ true → is_crossing side (slice_index_or links i no_link) ≡ false
crossing_zero at n [] up side i are none low is_up = absurd (omega arith)
crossing_zero at n (link ∷ links) up side zero are none low is_up =
    let here : at + zero ≡ at = omega arith in
    crossing_counts (is_up_link up at link) (is_crossing side link) link.capacity (cut_value_from (at + 1) links up side) (rw here at is_up) are.0.carries none
crossing_zero at n (link ∷ links) up side (suc i) are none low is_up =
    let same : at + suc i ≡ at + 1 + i = omega arith in
    crossing_zero (at + 1) n links up side i are.1 (omega (arith, none)) (omega arith) (rw same at is_up)

other_end : (p q : Bool) → p ≡ true → (if p then not q else q) ≡ false → q ≡ true
other_end true true is same = refl
other_end true false is same = cc
other_end false q is same = cc

first_end : (p q : Bool) → q ≡ true → (if p then not q else q) ≡ false → p ≡ true
first_end true q is same = refl
first_end false q is same = let clash : true ≡ false = sym is ∙ same in cc

joint_stays : (x y : ℕ) (link : LinkOpening) (side : ℕ → Bool) (p : Bool) → (link.a == x && link.b == y) ≡ p → is_joint x y link ≡ true → is_crossing side link ≡ false → side x ≡ true → side y ≡ true
joint_stays x y link side true is ends stays from =
    let here = both (link.a == x) (link.b == y) is in
    let at_a : x ≡ link.a = grind (arith, nat_tests) in
    let at_b : y ≡ link.b = grind (arith, nat_tests) in
    other_end (side x) (side y) from (rw (at_a, at_b) stays)
joint_stays x y link side false is ends stays from =
    let other : (link.a == y && link.b == x) ≡ true = rw is at ends in
    let here = both (link.a == y) (link.b == x) other in
    let at_a : y ≡ link.a = grind (arith, nat_tests) in
    let at_b : x ≡ link.b = grind (arith, nat_tests) in
    first_end (side y) (side x) from (rw (at_a, at_b) stays)

-- an up link does not leave a set over which nothing crosses
pub zero_stays : (n : ℕ) (links : List LinkOpening) (up : Entity → Bool) (side : ℕ → Bool) (i x y : ℕ) → AreLinks n links → cut_value links up side ≡ 0 → Leads links up i x y → side x ≡ true → side y ≡ true
zero_stays n links up side i x y are none leads from =
    let same : 0 + i ≡ i = omega arith in
    joint_stays x y (slice_index_or links i no_link) side ((slice_index_or links i no_link).a == x && (slice_index_or links i no_link).b == y) refl leads.ends (crossing_zero 0 n links up side i are none leads.within (rw same leads.is_up)) from

-- a set with a, over which nothing crosses, and that each such set contains
pub record IsLeastClosed (links : List LinkOpening) (up : Entity → Bool) (a : ℕ) (side : ℕ → Bool) : Type 0 where
  pub start : side a ≡ true
  pub closed : cut_value links up side ≡ 0
  pub least : (other : ℕ → Bool) → other a ≡ true → cut_value links up other ≡ 0 → (d : ℕ) → side d ≡ true → other d ≡ true

device_in : (n : ℕ) (links : List LinkOpening) (up : Entity → Bool) (s : Visits) (other : ℕ → Bool) → AreLinks n links → other s.root ≡ true → cut_value links up other ≡ 0 → (k device : ℕ) (came : Option Came) → MatchOption came (device ≡ s.root) (λ c. (c.from < k) × Leads links up c.link (step_at s c.from).device device) → ((j : ℕ) → j < k → other (step_at s j).device ≡ true) → other device ≡ true
device_in n links up s other are start none k device None is before = rw is start
device_in n links up s other are start none k device (Some c) is before = zero_stays n links up other c.link (step_at s c.from).device device are none is.1 (before c.from is.0)

steps_in : (n : ℕ) (links : List LinkOpening) (up : Entity → Bool) (s : Visits) (other : ℕ → Bool) → IsSearch n links up s → AreLinks n links → other s.root ≡ true → cut_value links up other ≡ 0 → (m k : ℕ) → k < m → k < length s.steps → other (step_at s k).device ≡ true
steps_in n links up s other is are start none zero k small low = absurd (omega arith)
steps_in n links up s other is are start none (suc m) k small low = device_in n links up s other are start none k (step_at s k).device (step_at s k).came (is.found k low) (λ j before. steps_in n links up s other is are start none m j (omega arith) (omega arith))

found_in : (n : ℕ) (links : List LinkOpening) (up : Entity → Bool) (s : Visits) (other : ℕ → Bool) → IsSearch n links up s → AreLinks n links → other s.root ≡ true → cut_value links up other ≡ 0 → (d : ℕ) (place : Option ℕ) → place_in s d ≡ place → is_some place ≡ true → other d ≡ true
found_in n links up s other is are start none d None here some = cc
found_in n links up s other is are start none d (Some k) here some =
    let at = is.placed d k here in
    rw (← at.1) (steps_in n links up s other is are start none (suc k) k (omega arith) at.0)

-- what a settled search has found is so
pub settled_least : (n : ℕ) (links : List LinkOpening) (up : Entity → Bool) (a : ℕ) (s : Visits) → IsSearch n links up s → s.root ≡ a → AreLinks n links → IsSettled links up s → IsLeastClosed links up a (is_found s)
settled_least n links up a s is root are settled = record {
  start = rw (← root) is.start;
  closed = zero_from 0 links up (is_found s) (λ i low is_up. settled i low (let same : 0 + i ≡ i = omega arith in rw same at is_up));
  least = λ other start none d. found_in n links up s other is are (rw root start) none d (place_in s d) refl;
}

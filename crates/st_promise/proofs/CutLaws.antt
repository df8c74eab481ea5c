-- Cuts that separate two devices either way, and what the branches of a tree tell of them.
use Rattle.std.proofs.Common.{Vec, max, min, replicate, ◌≡◌, ◌≢◌, ℕ, ◌+◌, ◌-◌, ◌<◌, ◌≤◌, Bool, true, false, not, if◌then◌else◌, List, [], ◌∷◌, ◌++◌, ◌==◌, length, length-append, get_or, refl, ap, ◌∙◌, sym, arith, inl, inr, ◌⊎◌}
use Rattle.std.specs.Prelude.{◌&&◌, slice_index_or}
use Rattle.std.proofs.lemmas.List.{get_or_read, get_or_append_left, get_or_past, get_or-replicate, length-replicate}
use Rattle.std.proofs.Math.Bool.{beq}
use Rattle.std.proofs.Math.Seq.{get_or-append_seam}
use Rattle.std.proofs.lemmas.Bool.Decides.{nat_tests, eqb_tells, leb_tells}
use Rattle.st_net.specs.declared.entity.Entity.{Entity}
use Rattle.st_net.specs.declared.topo.LinkOpening.{LinkOpening}
use Rattle.st_net.specs.Groups.{Group, IsSound}
use Rattle.st_net.specs.UpGraph.{is_up_link}
use Rattle.st_net.specs.Cuts.{is_crossing, cut_value_from, cut_value}
use Rattle.st_net.proofs.WalkLaws.{least_cut-below, least_cut-attained}
use Rattle.st_flow.specs.Network.{has, IsLeastCut as IsLeastEdgeCut}
use Rattle.st_promise.specs.UpNetwork.{up_network, baseline_of}
use Rattle.st_promise.specs.CutTree.{marked, tor_at, IsBranch, IsCutTree}
use Rattle.std.specs.declared.alloc.Global.{Global}
use Rattle.st_promise.specs.declared.cut_tree.Branch.{Branch}
use Rattle.st_promise.specs.declared.cut_tree.CutTree.{CutTree}
use Rattle.st_promise.proofs.NetworkLaws.{cut_same, cut_low}

-- the devices outside a set: the same links cross
abbrev pub outside_of : (ℕ → Bool) → ℕ → Bool
outside_of s d = not (s d)

cross_at : (u p q : Bool) (m : ℕ) → (if u && (if not p then not (not q) else not q) then m else 0) ≡ (if u && (if p then not q else q) then m else 0)
cross_at true true true m = refl
cross_at true true false m = refl
cross_at true false true m = refl
cross_at true false false m = refl
cross_at false true true m = refl
cross_at false true false m = refl
cross_at false false true m = refl
cross_at false false false m = refl

pub outside_same : (i : ℕ) (links : List LinkOpening) (up : Entity → Bool) (s : ℕ → Bool) → cut_value_from i links up (outside_of s) ≡ cut_value_from i links up s
outside_same i [] up s = refl
outside_same i (link ∷ links) up s =
    let here : (if is_up_link up i link && is_crossing (outside_of s) link then link.capacity else 0) ≡ (if is_up_link up i link && is_crossing s link then link.capacity else 0) = cross_at (is_up_link up i link) (s link.a) (s link.b) link.capacity in
    rw (here, outside_same (i + 1) links up s) refl

-- two devices that a set separates: one is inside
abbrev pub Separates : (ℕ → Bool) → ℕ → ℕ → Type 0
Separates s x y = ((s x ≡ true) × (s y ≡ false)) ⊎ ((s x ≡ false) × (s y ≡ true))

separates_at : (p q : Bool) → p ≢ q → ((p ≡ true) × (q ≡ false)) ⊎ ((p ≡ false) × (q ≡ true))
separates_at true true apart = absurd (apart refl)
separates_at true false apart = inl (refl, refl)
separates_at false true apart = inr (refl, refl)
separates_at false false apart = absurd (apart refl)

pub separates : (s : ℕ → Bool) (x y : ℕ) → s x ≢ s y → Separates s x y
separates s x y apart = separates_at (s x) (s y) apart

-- no cut that separates the two is below the least
pub none_below : (g : Group) (x y value : ℕ) (side : List ℕ) → IsLeastEdgeCut (up_network g (λ e. true)) x y value side → (s : ℕ → Bool) → s x ≢ s y → value ≤ cut_value g.links (λ e. true) s
none_below g x y value side is s apart = elim (separates s x y apart) [
  | inl at ↦ (let least = is.least s (record { inside = at.0; outside = at.1 }) in omega (arith, least, cut_same 0 g.links (λ e. true) s))
  | inr at ↦ (
      let least = is.least (outside_of s) (record { inside = rw at.0 refl; outside = rw at.1 refl }) in
      omega (arith, least, cut_same 0 g.links (λ e. true) (outside_of s), outside_same 0 g.links (λ e. true) s))
]

-- a cut that separates the two is no less than their least
pub least_within : (g : Group) (a b : ℕ) (s : ℕ → Bool) → IsSound g → s a ≢ s b → baseline_of g a b ≤ cut_value g.links (λ e. true) s
least_within g a b s sound apart = elim (separates s a b apart) [
  | inl at ↦ least_cut-below (length g.devices) g.links (λ e. true) a b s sound.links (record { inside = at.0; outside = at.1 })
  | inr at ↦ (
      let least = least_cut-below (length g.devices) g.links (λ e. true) a b (outside_of s) sound.links (record { inside = rw at.0 refl; outside = rw at.1 refl }) in
      omega (arith, least, outside_same 0 g.links (λ e. true) s))
]

-- where the least on the way and the least of the cuts that separate are one number, it is the least value
pub least_between : (g : Group) (a b low high : ℕ) → a ≢ b → ((s : ℕ → Bool) → s a ≢ s b → low ≤ cut_value g.links (λ e. true) s) → baseline_of g a b ≤ high → low ≡ high → low ≡ baseline_of g a b
least_between g a b low high apart below above same =
    let least = least_cut-attained (length g.devices) g.links (λ e. true) a b apart in
    let high_of = below least.0 (λ is. cc (is, least.1.inside, least.1.outside)) in
    omega (arith, same, above, high_of, least.2)

-- the mark of a device
pub mark_read : (marks : List Bool) (d n : ℕ) (read : Bool) → length marks ≡ n → d < n → read ≡ get_or marks d read → read ≡ marked marks d
mark_read marks d n read count low is = get_or_read marks d read (omega (arith, count, low)) is false

-- a branch whose sides two devices are on has at least their least value
pub branch_above : (g : Group) (tors : List ℕ) (k : ℕ) (branch : Branch) (a b : ℕ) → IsSound g → IsBranch g tors k branch → marked branch.side.items a ≢ marked branch.side.items b → baseline_of g a b ≤ branch.value
branch_above g tors k branch a b sound is apart =
    let low = least_within g a b (marked branch.side.items) sound apart in
    elim (separates (marked branch.side.items) a b apart) [
      | inl at ↦ omega (arith, low, is.above a b at.0 at.1)
      | inr at ↦ omega (arith, low, is.above b a at.1 at.0)
    ]

-- one step of the way: a set that separates the ends separates what is left of it, or its cut is no less than the branch
step_at : (p q r : Bool) → p ≢ q → (p ≢ r) ⊎ (r ≢ q)
step_at true true r apart = absurd (apart refl)
step_at true false true apart = inr (λ e. cc)
step_at true false false apart = inl (λ e. cc)
step_at false true true apart = inl (λ e. cc)
step_at false true false apart = inr (λ e. cc)
step_at false false r apart = absurd (apart refl)

pub step_on : (s : ℕ → Bool) (x z y : ℕ) → s x ≢ s y → (s x ≢ s z) ⊎ (s z ≢ s y)
step_on s x z y apart = step_at (s x) (s y) (s z) apart

-- no least value is above all capacities
apart_from : (a b : ℕ) → a ≢ b → (a == a) ≢ (b == a)
apart_from a b apart is =
    let here : (a == a) ≡ true = grind (arith, nat_tests) in
    let there : (b == a) ≡ false = grind (arith, nat_tests, apart) in
    cc

pub baseline_low : (g : Group) (a b : ℕ) → IsSound g → a ≢ b → baseline_of g a b ≤ 4096000000
baseline_low g a b sound apart =
    let least = least_within g a b (λ d. d == a) sound (apart_from a b apart) in
    let all = cut_low 0 (length g.devices) g.links (λ e. true) (λ d. d == a) sound.links in
    omega (arith, least, all, sound.few_links)

-- a branch for each ToR so far, and one more
pub branches_with : (g : Group) (tors : List ℕ) (branches : List Branch) (branch : Branch) → ((k : ℕ) → k < length branches → (b : Branch) → IsBranch g tors k (slice_index_or branches k b)) → IsBranch g tors (length branches) branch → (k : ℕ) → k < length (branches ++ branch ∷ []) → (b : Branch) → IsBranch g tors k (slice_index_or (branches ++ branch ∷ []) k b)
branches_with g tors branches branch each last k low b = elim (eqb_tells k (length branches)) [
  | inl e ↦ (let is : slice_index_or (branches ++ branch ∷ []) k b ≡ branch = rw e.1 (get_or-append_seam branches branch [] b) in rw (is, e.1) last)
  | inr e ↦ (
      let count : length (branches ++ branch ∷ []) ≡ length branches + 1 = length-append branches (branch ∷ []) in
      let here : k < length branches = omega (arith, low, count, e.1) in
      rw (get_or_append_left branches (branch ∷ []) b k here) (each k here b))
]

-- the branch that is read of a tree
pub branch_read : (g : Group) (tree : CutTree) (k : ℕ) (read : Branch) → IsCutTree g tree → k < length tree.branches.items → read ≡ get_or tree.branches.items k read → IsBranch g tree.tors.items k read
branch_read g tree k read is low at = rw at (is.each k low read)

-- a step of the way from the later of two ToRs: what was left of it, and what is left
pub way_on : (g : Group) (tors : List ℕ) (x y k far low new : ℕ) (branch : Branch) (s : ℕ → Bool) → IsBranch g tors k branch → k ≡ max x y → far ≡ min x y → new ≡ min low branch.value → ((low ≤ cut_value g.links (λ e. true) s) ⊎ (s (tor_at tors x) ≢ s (tor_at tors y))) → (new ≤ cut_value g.links (λ e. true) s) ⊎ (s (tor_at tors branch.parent) ≢ s (tor_at tors far))
way_on g tors x y k far low new branch s is at_k at_far at_new (inl le) = inl (omega (arith, le, at_new))
way_on g tors x y k far low new branch s is at_k at_far at_new (inr apart) =
    let ends : s (tor_at tors k) ≢ s (tor_at tors far) = elim (leb_tells x y) [
      | inl e ↦ (let later : k ≡ y = omega (arith, e.1, at_k) in let sooner : far ≡ x = omega (arith, e.1, at_far) in rw (later, sooner) (λ same. apart (sym same)))
      | inr e ↦ (let later : k ≡ x = omega (arith, e.1, at_k) in let sooner : far ≡ y = omega (arith, e.1, at_far) in rw (later, sooner) apart)
    ] in
    elim (step_on s (tor_at tors k) (tor_at tors branch.parent) (tor_at tors far) ends) [
      | inl e ↦ inl (let below = is.below s e in omega (arith, below, at_new))
      | inr e ↦ inr e
    ]

-- at its end nothing is left
pub way_done : (cut low p q : ℕ) (s : ℕ → Bool) → p ≡ q → ((low ≤ cut) ⊎ (s p ≢ s q)) → low ≤ cut
way_done cut low p q s same (inl le) = le
way_done cut low p q s same (inr apart) = absurd (apart (ap s same))

marks_apart : (p q : Bool) → not (beq p q) ≡ true → p ≢ q
marks_apart true true is = cc
marks_apart true false is = λ e. cc
marks_apart false true is = λ e. cc
marks_apart false false is = cc

-- a branch whose marks of the two are not alike
pub high_on : (g : Group) (tree : CutTree) (k a b high new : ℕ) (branch : Branch) (at_a at_b : Bool) → IsSound g → IsCutTree g tree → a < length g.devices → b < length g.devices → k < length tree.branches.items → branch ≡ get_or tree.branches.items k branch → at_a ≡ get_or branch.side.items a at_a → at_b ≡ get_or branch.side.items b at_b → not (beq at_a at_b) ≡ true → new ≡ min high branch.value → baseline_of g a b ≤ high → baseline_of g a b ≤ new
high_on g tree k a b high new branch at_a at_b sound is a_in b_in low read read_a read_b apart at_new le =
    let one = branch_read g tree k branch is low read in
    let here : marked branch.side.items a ≢ marked branch.side.items b = rw (← mark_read branch.side.items a (length g.devices) at_a one.marks a_in read_a, ← mark_read branch.side.items b (length g.devices) at_b one.marks b_in read_b) (marks_apart at_a at_b apart) in
    let above = branch_above g tree.tors.items k branch a b sound one here in
    omega (arith, le, above, at_new)

-- sets of the same devices are the same cut
value_same : (i : ℕ) (links : List LinkOpening) (up : Entity → Bool) (s t : ℕ → Bool) → ((d : ℕ) → s d ≡ t d) → cut_value_from i links up s ≡ cut_value_from i links up t
value_same i [] up s t same = refl
value_same i (link ∷ links) up s t same = rw (same link.a, same link.b, value_same (i + 1) links up s t same) refl

no_mark : (marks : List Bool) (n x : ℕ) → marks ≡ replicate n false → marked marks x ≢ true
no_mark marks n x none = λ here.
    let is : marked (replicate n false) x ≡ true = rw none at here in
    elim (leb_tells n x) [
      | inl e ↦ (let past : marked (replicate n false) x ≡ false = get_or_past (replicate n false) x false (omega (arith, e.1, length-replicate n false)) in cc)
      | inr e ↦ (let within : marked (replicate n false) x ≡ false = get_or-replicate n x false false e.1 in cc)
    ]

-- the cut that was found for a branch
pub branch_found : (g : Group) (tors : List ℕ) (k later earlier parent value : ℕ) (side : List ℕ) (marks : Vec Bool Global) → later ≡ tor_at tors k → earlier ≡ tor_at tors parent → parent ≤ k - 1 → IsLeastEdgeCut (up_network g (λ e. true)) later earlier value side → length marks.items ≡ length g.devices → ((d : ℕ) → marked marks.items d ≡ has side d) → IsBranch g tors k (record { parent = parent; value = value; side = marks })
branch_found g tors k later earlier parent value side marks at_k at_parent low is count has_marks = record {
  earlier = low;
  below = λ s apart. none_below g later earlier value side is s (rw (at_k, at_parent) apart);
  above = λ x y here there. value_same 0 g.links (λ e. true) (marked marks.items) (has side) has_marks ∙ (cut_same 0 g.links (λ e. true) (has side) ∙ is.value_is);
  marks = count;
}

-- a branch of a ToR from itself
pub branch_none : (g : Group) (tors : List ℕ) (k later earlier parent : ℕ) (marks : Vec Bool Global) → later ≡ tor_at tors k → earlier ≡ tor_at tors parent → parent ≤ k - 1 → later ≡ earlier → marks.items ≡ replicate (length g.devices) false → IsBranch g tors k (record { parent = parent; value = 0; side = marks })
branch_none g tors k later earlier parent marks at_k at_parent low same none = record {
  earlier = low;
  below = λ s apart. omega arith;
  above = λ x y here there. absurd (no_mark marks.items (length g.devices) x none here);
  marks = ap length none ∙ length-replicate (length g.devices) false;
}

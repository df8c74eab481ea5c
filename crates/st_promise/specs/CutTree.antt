-- Least cuts of ToRs, each from an earlier one, and what they tell of all pairs.
use Rattle.std.specs.Prelude.{◌≡◌, ◌≢◌, ℕ, ◌-◌, ◌<◌, ◌≤◌, Bool, true, false, List, length, All, slice_index_or}
use Rattle.st_net.specs.Groups.{Group}
use Rattle.st_net.specs.Cuts.{cut_value}
use Rattle.st_promise.specs.declared.cut_tree.Branch.{Branch}
use Rattle.st_promise.specs.declared.cut_tree.CutTree.{CutTree}

-- the set of the devices that have a mark
abbrev pub marked : List Bool → ℕ → Bool
marked marks d = slice_index_or marks d false

-- ToR number k
abbrev pub tor_at : List ℕ → ℕ → ℕ
tor_at tors k = slice_index_or tors k 0

-- no cut with everything up that separates ToR number k from an earlier one is below the value, and where the side is not empty
-- or whole, it is a cut of that value; the first ToR is its own
pub record IsBranch (g : Group) (tors : List ℕ) (k : ℕ) (b : Branch) : Type 0 where
  pub earlier : b.parent ≤ k - 1
  pub below : (s : ℕ → Bool) → s (tor_at tors k) ≢ s (tor_at tors b.parent) → b.value ≤ cut_value g.links (λ e. true) s
  pub above : (x y : ℕ) → marked b.side.items x ≡ true → marked b.side.items y ≡ false → cut_value g.links (λ e. true) (marked b.side.items) ≡ b.value
  pub marks : length b.side.items ≡ length g.devices

-- a branch for each of the first ToRs
pub record IsCutTree (g : Group) (tree : CutTree) : Type 0 where
  pub in_range : All (λ d. d < length g.devices) tree.tors.items
  pub few : length tree.branches.items ≤ length tree.tors.items
  pub each : (k : ℕ) → k < length tree.branches.items → (b : Branch) → IsBranch g tree.tors.items k (slice_index_or tree.branches.items k b)

use Rattle.std.proofs.Common.{◌≢◌, ◌<◌, ◌≤◌, ◌+◌, ℕ, length, ◌⊎◌}
use Rattle.std.specs.Prelude.{Bool, true}
use Rattle.st_net.specs.Cuts.{cut_value}
use Rattle.st_promise.specs.CutTree.{tor_at}
use Rattle.st_promise.proofs.cut_tree.CutTree.low.Given as goal

abbrev pub invariant-loop-x : goal.invariant-loop-x
invariant-loop-x l = record {
  x_in : l.x < length l.self.branches.items;
  y_in : l.y < length l.self.branches.items;
  on_the_way : (s : ℕ → Bool) → s (tor_at l.self.tors.items l.initial.x) ≢ s (tor_at l.self.tors.items l.initial.y) → (l.low ≤ cut_value l.topo.links (λ e. true) s) ⊎ (s (tor_at l.self.tors.items l.x) ≢ s (tor_at l.self.tors.items l.y));
}

abbrev pub decreases-loop-x : goal.decreases-loop-x
decreases-loop-x l = l.x + l.y

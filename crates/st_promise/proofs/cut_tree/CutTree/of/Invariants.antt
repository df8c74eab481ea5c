use Rattle.std.proofs.Common.{◌≡◌, ◌<◌, ℕ, length}
use Rattle.std.specs.Prelude.{slice_index_or}
use Rattle.st_promise.specs.CutTree.{IsBranch}
use Rattle.st_promise.specs.declared.cut_tree.Branch.{Branch}
use Rattle.st_promise.proofs.cut_tree.CutTree.of.Given as goal

abbrev pub invariant-loop-k : goal.invariant-loop-k
invariant-loop-k l = record {
  parents : length l.parents.items ≡ length l.tors.items;
  count : length l.branches.items ≡ l.k;
  each : (k : ℕ) → k < length l.branches.items → (b : Branch) → IsBranch l.topo l.tors.items k (slice_index_or l.branches.items k b);
}

use Rattle.std.proofs.Common.{◌≡◌, ℕ, ◌<◌, ◌≤◌}
use Rattle.std.specs.Prelude.{◌&&◌, not, false, slice_index_or}
use Rattle.st_net.proofs.set.unmark.Given as goal

-- what stands so far has lost its marks, and the rest is as it was
abbrev pub invariant-loop-i : goal.invariant-loop-i
invariant-loop-i l = record {
  done : (k : ℕ) → k < l.i → slice_index_or l.marks k false ≡ (slice_index_or l.fn.marks k false && not (slice_index_or l.others k false));
  rest : (k : ℕ) → l.i ≤ k → slice_index_or l.marks k false ≡ slice_index_or l.fn.marks k false;
}

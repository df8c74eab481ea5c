use Rattle.std.proofs.Common.{◌≡◌, ℕ, ◌<◌}
use Rattle.std.specs.Prelude.{slice_index_or}
use Rattle.st_net.specs.Groups.{no_promise}
use Rattle.st_promise.proofs.same.has_same_promises.Given as goal

abbrev pub invariant-loop-i : goal.invariant-loop-i
invariant-loop-i l = (k : ℕ) → k < l.i → slice_index_or l.topo.promises k no_promise ≡ slice_index_or l.other.promises k no_promise

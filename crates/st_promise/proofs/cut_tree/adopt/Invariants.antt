use Rattle.std.proofs.Common.{◌≡◌, length}
use Rattle.st_promise.proofs.cut_tree.adopt.Given as goal

abbrev pub invariant-loop-j : goal.invariant-loop-j
invariant-loop-j l = length l.parents ≡ length l.tors

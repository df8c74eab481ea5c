use Rattle.std.proofs.Common.{◌≤◌}
use Rattle.st_promise.specs.UpNetwork.{baseline_of}
use Rattle.st_promise.proofs.cut_tree.CutTree.high.Given as goal

abbrev pub invariant-loop-branch : goal.invariant-loop-branch
invariant-loop-branch l = baseline_of l.topo l.a l.b ≤ l.high

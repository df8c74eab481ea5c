use Rattle.std.proofs.Common.{◌≡◌, ℕ, take, length}
use Rattle.st_flow.specs.Network.{has}
use Rattle.st_promise.specs.CutTree.{marked}
use Rattle.st_promise.proofs.cut_tree.marks_of.Given as goal

abbrev pub invariant-loop-device : goal.invariant-loop-device
invariant-loop-device l = record {
  count : length l.marks.items ≡ l.devices;
  marked : (d : ℕ) → marked l.marks.items d ≡ has (take l.device-index l.side) d;
}

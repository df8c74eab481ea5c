use Rattle.std.proofs.Common.{◌≡◌, ◌<◌, length, All}
use Rattle.st_promise.proofs.cut_tree.asked_tors.Given as goal

abbrev pub invariant-loop-i : goal.invariant-loop-i
invariant-loop-i l = length l.marks.items ≡ length l.topo.devices

abbrev pub invariant-loop-device : goal.invariant-loop-device
invariant-loop-device l = All (λ d. d < length l.topo.devices) l.tors.items

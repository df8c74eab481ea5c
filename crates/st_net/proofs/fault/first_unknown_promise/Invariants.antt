use Rattle.std.proofs.Common.{◌≡◌, ◌+◌, drop}
use Rattle.st_net.specs.Faults.{first_promise, has_unknown_tor}
use Rattle.st_net.proofs.fault.first_unknown_promise.Given as goal

abbrev pub invariant-loop-i : goal.invariant-loop-i
invariant-loop-i l = first_promise (has_unknown_tor l.devices) (l.at + l.i) (drop l.i l.promises) ≡ first_promise (has_unknown_tor l.devices) l.at l.promises

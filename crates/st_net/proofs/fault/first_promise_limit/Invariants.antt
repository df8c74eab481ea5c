use Rattle.std.proofs.Common.{◌≡◌, drop}
use Rattle.st_net.specs.Faults.{first_promise_limit}
use Rattle.st_net.proofs.fault.first_promise_limit.Given as goal

abbrev pub invariant-loop-i : goal.invariant-loop-i
invariant-loop-i l = first_promise_limit l.before l.i (drop l.i l.promises) ≡ first_promise_limit l.before 0 l.promises

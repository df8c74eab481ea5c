use Rattle.std.proofs.Common.{◌≡◌, drop}
use Rattle.st_net.specs.Faults.{first_link_limit}
use Rattle.st_net.proofs.fault.first_link_limit.Given as goal

abbrev pub invariant-loop-i : goal.invariant-loop-i
invariant-loop-i l = first_link_limit l.before l.i (drop l.i l.links) ≡ first_link_limit l.before 0 l.links

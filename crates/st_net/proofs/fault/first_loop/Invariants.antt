use Rattle.std.proofs.Common.{◌≡◌, ◌+◌, drop}
use Rattle.st_net.specs.Faults.{first_link, is_loop}
use Rattle.st_net.proofs.fault.first_loop.Given as goal

abbrev pub invariant-loop-i : goal.invariant-loop-i
invariant-loop-i l = first_link (is_loop l.group) (l.at + l.i) (drop l.i l.links) ≡ first_link (is_loop l.group) l.at l.links

use Rattle.std.proofs.Common.{◌≡◌, ◌+◌, drop}
use Rattle.st_net.specs.Faults.{first_link, has_unknown_end}
use Rattle.st_net.proofs.fault.first_unknown_link.Given as goal

abbrev pub invariant-loop-i : goal.invariant-loop-i
invariant-loop-i l = first_link (has_unknown_end l.group l.devices) (l.at + l.i) (drop l.i l.links) ≡ first_link (has_unknown_end l.group l.devices) l.at l.links

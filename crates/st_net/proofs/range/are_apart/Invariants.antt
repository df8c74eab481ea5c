use Rattle.std.proofs.Common.{◌≡◌, drop}
use Rattle.st_net.specs.Ranges.{are_apart}
use Rattle.st_net.proofs.range.are_apart.Given as goal

abbrev pub invariant-loop-i : goal.invariant-loop-i
invariant-loop-i l = are_apart (drop l.i l.rows) ≡ are_apart l.rows

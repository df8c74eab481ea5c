use Rattle.std.proofs.Common.{◌≡◌, ◌++◌, drop}
use Rattle.st_gen.specs.FatTrees.{promises_among}
use Rattle.st_gen.proofs.promises.promises_among.Given as goal

abbrev pub invariant-loop-i : goal.invariant-loop-i
invariant-loop-i l = promises_among l.names ≡ l.parts.items ++ promises_among (drop l.i l.names)

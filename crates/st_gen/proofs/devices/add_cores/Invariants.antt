use Rattle.std.proofs.Common.{◌≡◌, ◌++◌}
use Rattle.std.specs.Prelude.{map}
use Rattle.st_gen.specs.FatTrees.{numbers, core}
use Rattle.st_gen.proofs.devices.add_cores.Given as goal

abbrev pub invariant-loop-n : goal.invariant-loop-n
invariant-loop-n l = l.parts.items ≡ l.initial.parts.items ++ map core (numbers l.n)

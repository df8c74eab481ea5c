use Rattle.std.proofs.Common.{◌≡◌, ◌++◌}
use Rattle.std.specs.Prelude.{map}
use Rattle.st_gen.specs.FatTrees.{numbers, aggregation}
use Rattle.st_gen.proofs.devices.add_aggregations.Given as goal

abbrev pub invariant-loop-j : goal.invariant-loop-j
invariant-loop-j l = l.parts.items ≡ l.initial.parts.items ++ map (aggregation l.pod) (numbers l.j)

use Rattle.std.proofs.Common.{◌≡◌, ◌++◌}
use Rattle.std.specs.Prelude.{map}
use Rattle.st_gen.specs.FatTrees.{numbers, core_link}
use Rattle.st_gen.proofs.links.add_core_links.Given as goal

abbrev pub invariant-loop-m : goal.invariant-loop-m
invariant-loop-m l = l.parts.items ≡ l.initial.parts.items ++ map (core_link l.half l.pod l.aggregation) (numbers l.m)

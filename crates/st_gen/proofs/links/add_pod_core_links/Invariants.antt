use Rattle.std.proofs.Common.{◌≡◌, ◌++◌}
use Rattle.std.specs.Prelude.{flat_map}
use Rattle.st_gen.specs.FatTrees.{numbers, core_links}
use Rattle.st_gen.proofs.links.add_pod_core_links.Given as goal

abbrev pub invariant-loop-aggregation : goal.invariant-loop-aggregation
invariant-loop-aggregation l = l.parts.items ≡ l.initial.parts.items ++ flat_map (core_links l.half l.pod) (numbers l.aggregation)

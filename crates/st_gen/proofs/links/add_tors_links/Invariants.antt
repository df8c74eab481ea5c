use Rattle.std.proofs.Common.{◌≡◌, ◌++◌}
use Rattle.std.specs.Prelude.{flat_map}
use Rattle.st_gen.specs.FatTrees.{numbers, tor_links}
use Rattle.st_gen.proofs.links.add_tors_links.Given as goal

abbrev pub invariant-loop-tor : goal.invariant-loop-tor
invariant-loop-tor l = l.parts.items ≡ l.initial.parts.items ++ flat_map (tor_links l.half l.pod) (numbers l.tor)

use Rattle.std.proofs.Common.{◌≡◌, ◌++◌}
use Rattle.std.specs.Prelude.{map}
use Rattle.st_gen.specs.FatTrees.{numbers, tor_link}
use Rattle.st_gen.proofs.links.add_tor_links.Given as goal

abbrev pub invariant-loop-j : goal.invariant-loop-j
invariant-loop-j l = l.parts.items ≡ l.initial.parts.items ++ map (tor_link l.fn.pod l.fn.tor) (numbers l.j)

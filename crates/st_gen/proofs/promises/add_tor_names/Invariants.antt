use Rattle.std.proofs.Common.{◌≡◌, ◌++◌}
use Rattle.std.specs.Prelude.{map}
use Rattle.st_gen.specs.FatTrees.{numbers, tor_name}
use Rattle.st_gen.proofs.promises.add_tor_names.Given as goal

abbrev pub invariant-loop-i : goal.invariant-loop-i
invariant-loop-i l = l.names.items ≡ l.initial.names.items ++ map (tor_name l.pod) (numbers l.i)

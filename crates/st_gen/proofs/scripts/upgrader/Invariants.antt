use Rattle.std.proofs.Common.{◌≡◌}
use Rattle.std.specs.Prelude.{flat_map}
use Rattle.st_gen.specs.FatTrees.{numbers}
use Rattle.st_gen.specs.Scripts.{stage}
use Rattle.st_gen.proofs.scripts.upgrader.Given as goal

abbrev pub invariant-loop-j : goal.invariant-loop-j
invariant-loop-j l = l.acts.items ≡ flat_map (stage l.pods l.value) (numbers l.j)

use Rattle.std.proofs.Common.{◌≡◌}
use Rattle.std.specs.Prelude.{map}
use Rattle.st_gen.specs.FatTrees.{numbers}
use Rattle.st_gen.specs.Scripts.{firmware_row}
use Rattle.st_gen.proofs.scripts.pod_rows.Given as goal

abbrev pub invariant-loop-j : goal.invariant-loop-j
invariant-loop-j l = l.rows.items ≡ map (firmware_row l.half l.value l.pod) (numbers l.j)

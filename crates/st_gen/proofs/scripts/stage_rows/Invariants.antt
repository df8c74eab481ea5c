use Rattle.std.proofs.Common.{◌≡◌}
use Rattle.std.specs.Prelude.{map}
use Rattle.st_gen.specs.FatTrees.{numbers, half}
use Rattle.st_gen.specs.Scripts.{stage_row}
use Rattle.st_gen.proofs.scripts.stage_rows.Given as goal

abbrev pub invariant-loop-pod : goal.invariant-loop-pod
invariant-loop-pod l = l.rows.items ≡ map (stage_row (half l.pods) l.value l.j) (numbers l.pod)

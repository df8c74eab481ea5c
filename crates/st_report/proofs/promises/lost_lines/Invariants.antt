use Rattle.std.proofs.Common.{◌≡◌, take}
use Rattle.std.specs.Prelude.{flat_map}
use Rattle.st_report.proofs.Gathered.{lost_texts}
use Rattle.st_report.proofs.promises.lost_lines.Given as goal

abbrev pub invariant-loop-i : goal.invariant-loop-i
invariant-loop-i l = l.lines ≡ flat_map (lost_texts l.world.history.group l.world.history.past) (take l.i l.world.history.group.promises)

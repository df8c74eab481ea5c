use Rattle.std.proofs.Common.{◌≡◌, take}
use Rattle.std.specs.Prelude.{flat_map}
use Rattle.st_report.proofs.Gathered.{withdrawn_texts}
use Rattle.st_report.proofs.withdrawals.withdrawn_lines.Given as goal

abbrev pub invariant-loop-entry : goal.invariant-loop-entry
invariant-loop-entry l = l.lines ≡ flat_map (withdrawn_texts l.topo) (take l.entry-index l.entries)

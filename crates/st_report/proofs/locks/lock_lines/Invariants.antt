use Rattle.std.proofs.Common.{◌≡◌, take}
use Rattle.std.specs.Prelude.{flat_map}
use Rattle.st_report.proofs.Gathered.{lock_texts}
use Rattle.st_report.proofs.locks.lock_lines.Given as goal

abbrev pub invariant-loop-entry : goal.invariant-loop-entry
invariant-loop-entry l = l.lines ≡ flat_map (lock_texts l.topo l.apps) (take l.entry-index l.entries)

use Rattle.std.proofs.Common.{◌≡◌, ◌++◌, take}
use Rattle.st_text.specs.Words.{spaced}
use Rattle.st_entry.specs.Words.{assignment_words}
use Rattle.st_entry.proofs.events.print_assignments.Given as goal

abbrev pub invariant-loop-row : goal.invariant-loop-row
invariant-loop-row l = l.out ≡ l.initial.out ++ spaced (assignment_words l.topo (take l.row-index l.rows))

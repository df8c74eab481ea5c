use Rattle.std.proofs.Common.{◌≡◌, ◌++◌, take}
use Rattle.st_text.specs.Words.{spaced}
use Rattle.st_doc.specs.Printed.{value_words}
use Rattle.st_doc.proofs.printing.acts.print_values.Given as goal

abbrev pub invariant-loop-row : goal.invariant-loop-row
invariant-loop-row l = l.out ≡ l.initial.out ++ spaced (value_words (take l.row-index l.rows))

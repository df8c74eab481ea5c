use Rattle.std.proofs.Common.{◌≡◌, ◌++◌, take, length}
use Rattle.st_text.specs.Words.{text_of}
use Rattle.st_doc.specs.Printed.{wires_lines}
use Rattle.st_doc.proofs.printing.wires.print_wires.Given as goal

abbrev pub invariant-loop-group : goal.invariant-loop-group
invariant-loop-group l = l.out ≡ l.initial.out ++ text_of (wires_lines (take (length l.yielded) l.groups) (take (length l.yielded) l.wires))

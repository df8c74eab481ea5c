use Rattle.std.proofs.Common.{◌≡◌, ◌++◌, take}
use Rattle.std.specs.Prelude.{flat_map}
use Rattle.st_text.specs.Words.{text_of}
use Rattle.st_doc.specs.Printed.{group_lines}
use Rattle.st_doc.proofs.printing.print_groups.Given as goal

abbrev pub invariant-loop-group : goal.invariant-loop-group
invariant-loop-group l = l.out ≡ l.initial.out ++ text_of (flat_map group_lines (take l.group-index l.groups))

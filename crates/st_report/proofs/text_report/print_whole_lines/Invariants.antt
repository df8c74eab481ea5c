use Rattle.std.proofs.Common.{◌≡◌, ◌++◌, take}
use Rattle.st_report.specs.Inside.{whole_lines}
use Rattle.st_report.proofs.text_report.print_whole_lines.Given as goal

abbrev pub invariant-loop-text : goal.invariant-loop-text
invariant-loop-text l = l.out ≡ l.initial.out ++ whole_lines (take l.text-index l.text-items)

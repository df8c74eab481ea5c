use Rattle.std.proofs.Common.{◌≡◌, ◌++◌, take}
use Rattle.st_report.specs.Inside.{lines_behind}
use Rattle.st_report.proofs.text_report.print_lines.Given as goal

abbrev pub invariant-loop-text : goal.invariant-loop-text
invariant-loop-text l = l.out ≡ l.initial.out ++ lines_behind l.word (take l.text-index l.text-items)

use Rattle.std.proofs.Common.{◌≡◌, ◌++◌, take}
use Rattle.st_report.specs.Lines.{histories}
use Rattle.st_top.specs.Output.{journals_text}
use Rattle.st_top.proofs.output.print_journals.Given as goal

-- the journals of the worlds so far
abbrev pub invariant-loop-world : goal.invariant-loop-world
invariant-loop-world l = l.out ≡ l.fn.out ++ journals_text (histories (take l.world-index l.worlds)) l.apps

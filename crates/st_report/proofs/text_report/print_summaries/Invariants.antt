use Rattle.std.proofs.Common.{◌≡◌, ◌++◌, take}
use Rattle.std.specs.Prelude.{flat_map}
use Rattle.st_report.specs.Inside.{summary_text}
use Rattle.st_report.proofs.text_report.print_summaries.Given as goal

abbrev pub invariant-loop-summary : goal.invariant-loop-summary
invariant-loop-summary l = l.out ≡ l.initial.out ++ flat_map summary_text (take l.summary-index l.summaries)

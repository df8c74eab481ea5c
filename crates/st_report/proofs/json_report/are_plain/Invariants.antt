use Rattle.std.proofs.Common.{◌≡◌, true, take}
use Rattle.std.specs.List.{list_all}
use Rattle.st_report.specs.JsonInside.{is_plain_summary}
use Rattle.st_report.proofs.json_report.are_plain.Given as goal

abbrev pub invariant-loop-summary : goal.invariant-loop-summary
invariant-loop-summary l = list_all is_plain_summary (take l.summary-index l.summaries) ≡ true

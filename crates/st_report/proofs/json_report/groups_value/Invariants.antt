use Rattle.std.proofs.Common.{◌≡◌, take}
use Rattle.serde_json.specs.View.{items_view}
use Rattle.st_report.specs.JsonInside.{groups_data}
use Rattle.st_report.proofs.json_report.groups_value.Given as goal

-- the groups so far
abbrev pub invariant-loop-summary : goal.invariant-loop-summary
invariant-loop-summary l = items_view l.list.items ≡ groups_data (take l.summary-index l.summaries)

use Rattle.std.proofs.Common.{◌≡◌, take}
use Rattle.serde_json.specs.View.{items_view}
use Rattle.st_report.specs.JsonInside.{strings, without_space}
use Rattle.st_report.proofs.json_report.lines_value.Given as goal

-- the texts so far
abbrev pub invariant-loop-text : goal.invariant-loop-text
invariant-loop-text l = items_view l.list.items ≡ strings (without_space (take l.text-index l.text-items))

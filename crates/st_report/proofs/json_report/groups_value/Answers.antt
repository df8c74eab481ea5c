use Rattle.std.proofs.Common.{◌∙◌, ap}
use Rattle.std.proofs.lemmas.List.{take_all}
use Rattle.serde_json.proofs.Views.{view-Array}
use Rattle.serde_json.specs.Data.{array}
use Rattle.st_report.specs.JsonInside.{groups_data}
use Rattle.st_report.proofs.JsonTexts.{groups_step}
use Rattle.st_report.proofs.json_report.groups_value.Goals as goal

pub loop-summary-preserved : goal.loop-summary-preserved
loop-summary-preserved c =
    rw c.in_ok-push.ensures.items (groups_step c.args.summaries.now c.loop-summary.list.items _ c.loop-summary.summary-index c.summary-item.result c.loop-summary-test.true c.summary-item.is c.in_ok-group_value.ensures c.loop-summary.invariant)

pub returns : goal.returns
returns c =
    view-Array c.loop-summary.list ∙ ap array (c.loop-summary.invariant ∙ ap groups_data (take_all c.loop-summary.summary-index c.args.summaries.now c.loop-summary-test.false))

use Rattle.std.proofs.Common.{◌∙◌, ap, sym}
use Rattle.std.specs.List.{list_all}
use Rattle.std.proofs.lemmas.List.{take_all}
use Rattle.st_report.specs.JsonInside.{is_plain_summary}
use Rattle.st_report.proofs.Adding.{all_next}
use Rattle.st_report.proofs.json_report.are_plain.Goals as goal

pub loop-summary-preserved : goal.loop-summary-preserved
loop-summary-preserved c = all_next is_plain_summary c.args.summaries.now c.loop-summary.summary-index c.summary-item.result c.summary-item.result c.loop-summary-test.true c.summary-item.is c.loop-summary.invariant c.is_plain_summary.ensures

pub returns : goal.returns
returns c = ap (list_all is_plain_summary) (sym (take_all c.loop-summary.summary-index c.args.summaries.now c.loop-summary-test.false)) ∙ c.loop-summary.invariant

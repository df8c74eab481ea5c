use Rattle.std.proofs.Common.{◌∙◌, ◌++◌, List, ap, sym}
use Rattle.std.specs.Prelude.{flat_map}
use Rattle.std.proofs.lemmas.List.{append-nil, take_all}
use Rattle.st_report.specs.declared.report.Summary.{Summary}
use Rattle.st_report.specs.Inside.{summary_text}
use Rattle.st_report.proofs.Adding.{flat_next}
use Rattle.st_report.proofs.text_report.print_summaries.Goals as goal

pub loop-summary-init : goal.loop-summary-init
loop-summary-init c = sym (append-nil c.args.out.now)

pub loop-summary-preserved : goal.loop-summary-preserved
loop-summary-preserved c =
    flat_next summary_text c.args.summaries.now c.loop-summary.summary-index c.summary-item.result c.summary-item.result c.args.out.now c.loop-summary.out c.print_summary.new.out c.loop-summary-test.true c.summary-item.is c.loop-summary.invariant c.in_ok-print_summary.ensures

pub returns : goal.returns
returns c = c.loop-summary.invariant ∙ ap (λ (ss : List Summary). c.args.out.now ++ flat_map summary_text ss) (take_all c.loop-summary.summary-index c.args.summaries.now c.loop-summary-test.false)

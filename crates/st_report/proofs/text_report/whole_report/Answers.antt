use Rattle.std.proofs.Common.{◌∙◌, ◌++◌, ap, ap₂}
use Rattle.st_report.specs.Inside.{whole_text}
use Rattle.st_report.specs.Lines.{histories}
use Rattle.st_report.proofs.TextLines.{report_printed}
use Rattle.st_report.proofs.text_report.whole_report.Goals as goal

pub returns : goal.returns
returns c =
    let report = c.in_ok-report.report in
    c.in_ok-print_report.ensures ∙ (ap (λ t. t ++ whole_text report.groups.items report.reads) c.new-text.ensures ∙
    (ap₂ whole_text c.in_ok-report.ensures.groups c.in_ok-report.ensures.reads ∙ report_printed (histories c.args.worlds.now) c.args.apps.now c.args.logs.now))

use Rattle.std.proofs.Common.{◌∙◌, ap, sym}
use Rattle.std.specs.List.{list_all}
use Rattle.st_entry.specs.Plain.{is_plain}
use Rattle.st_entry.proofs.Plain.{name_plain}
use Rattle.st_report.proofs.JsonTexts.{seven_plain}
use Rattle.st_report.proofs.json_report.is_plain_summary.Goals as goal

pub returns : goal.returns
returns c = seven_plain c.args.summary.now
    (ap is_plain (sym c.bytes-name.ensures.bytes) ∙ name_plain c.bytes-name.result.now c.bytes-name.ensures.spelling)
    (ap (list_all is_plain) (sym c.as_slice-locks.ensures.value) ∙ c.as_slice-locks.ensures.plain)
    (ap (list_all is_plain) (sym c.as_slice-lost.ensures.value) ∙ c.as_slice-lost.ensures.plain)
    (ap (list_all is_plain) (sym c.as_slice-receipts.ensures.value) ∙ c.as_slice-receipts.ensures.plain)
    (ap (list_all is_plain) (sym c.as_slice-targets.ensures.value) ∙ c.as_slice-targets.ensures.plain)
    (ap (list_all is_plain) (sym c.as_slice-unsettled.ensures.value) ∙ c.as_slice-unsettled.ensures.plain)
    (ap (list_all is_plain) (sym c.as_slice-withdrawn.ensures.value) ∙ c.as_slice-withdrawn.ensures.plain)

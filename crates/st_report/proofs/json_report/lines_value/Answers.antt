use Rattle.std.proofs.Common.{◌∙◌, ap}
use Rattle.std.proofs.lemmas.List.{take_all}
use Rattle.serde_json.proofs.Views.{view-Array}
use Rattle.serde_json.specs.Data.{array, string}
use Rattle.st_report.specs.JsonInside.{strings, without_space}
use Rattle.st_entry.specs.Plain.{is_plain}
use Rattle.st_report.proofs.Adding.{all_at}
use Rattle.st_report.proofs.JsonTexts.{lines_step}
use Rattle.st_entry.proofs.Plain.{rest_plain}
use Rattle.st_report.proofs.json_report.lines_value.Goals as goal

pub text_value-requires : goal.text_value-requires
text_value-requires c =
    ap is_plain c.without_space.ensures ∙ rest_plain c.text-item.result (all_at is_plain c.as_slice-text-items.result.now c.loop-text.text-index c.text-item.result c.text-item.result c.loop-text-test.true c.text-item.is c.as_slice-text-items.ensures.plain)

pub loop-text-preserved : goal.loop-text-preserved
loop-text-preserved c =
    rw c.in_ok-push.ensures.items (lines_step c.as_slice-text-items.result.now c.loop-text.list.items _ c.loop-text.text-index c.text-item.result c.loop-text-test.true c.text-item.is (c.in_ok-text_value.ensures ∙ ap string c.without_space.ensures) c.loop-text.invariant)

pub returns : goal.returns
returns c =
    view-Array c.loop-text.list ∙ ap array (c.loop-text.invariant
    ∙ ap (λ texts. strings (without_space texts)) (take_all c.loop-text.text-index c.as_slice-text-items.result.now c.loop-text-test.false ∙ c.as_slice-text-items.ensures.value))

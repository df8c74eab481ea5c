use Rattle.std.proofs.Common.{◌≡◌, ◌∙◌, ◌++◌, ◌∷◌, [], ap, rules, false}
use Rattle.std.specs.Prelude.{string_bytes}
use Rattle.serde_json.specs.View.{view}
use Rattle.serde_json.specs.Written.{has_float, compact_text}
use Rattle.st_report.specs.JsonInside.{report_data}
use Rattle.st_report.proofs.JsonTexts.{report_floatless}
use Rattle.st_report.proofs.json_report.line_of.Goals as goal

pub returns : goal.returns
returns c =
    let shape : view c.in_ok-value.value ≡ report_data c.args.report.now.groups.items c.args.report.now.reads = c.in_ok-value.ensures in
    let floatless : has_float (view c.in_ok-value.value) ≡ false = ap has_float shape ∙ report_floatless c.args.report.now.groups.items c.args.report.now.reads in
    let printed : string_bytes c.in_ok-line.line ≡ compact_text (report_data c.args.report.now.groups.items c.args.report.now.reads) = c.in_ok-line.ensures.text floatless ∙ ap compact_text shape in
    let pushed : string_bytes c.push.new.self ≡ string_bytes c.in_ok-line.line ++ 10 ∷ [] = search rules in
    pushed ∙ ap (λ t. t ++ 10 ∷ []) printed

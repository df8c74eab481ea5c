use Rattle.std.proofs.Common.{◌≡◌, ◌∙◌, ◌++◌, ◌∷◌, [], Global, refl}
use Rattle.std.specs.Prelude.{String, string_bytes}
use Rattle.serde_json.specs.Written.{compact_text}
use Rattle.st_report.specs.Json.{report_json_of}
use Rattle.st_report.specs.JsonInside.{report_data}
use Rattle.st_report.specs.Lines.{histories}
use Rattle.st_report.proofs.Adding.{if_ok_by}
use Rattle.st_report.proofs.JsonTexts.{report_printed}
use Rattle.st_report.proofs.json_report.json_line.Goals as goal

pub returns : goal.returns
returns c =
    let report = c.in_ok-report.report in
    let groups = histories c.args.worlds.now in
    let printed = compact_text (report_data report.groups.items report.reads) in
    if_ok_by (λ (line : String Global). string_bytes line ≡ printed ++ 10 ∷ []) (λ line. string_bytes line ≡ report_json_of groups c.args.apps.now c.args.logs.now) c.line_of.result
    (λ line is. is ∙ report_printed groups c.args.apps.now c.args.logs.now report.groups.items report.reads printed c.in_ok-report.ensures.groups c.in_ok-report.ensures.reads c.is_plain_report.ensures.groups c.is_plain_report.ensures.reads refl) c.line_of.ensures

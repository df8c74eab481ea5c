use Rattle.st_entry.proofs.Plain.{plain_utf8}
use Rattle.st_report.proofs.json_report.text_value.Goals as goal

pub unreachable-requires : goal.unreachable-requires
unreachable-requires c = c.in-Err.ensures.cases.0 (plain_utf8 c.args.bytes.now c.requires)

use Rattle.st_entry.proofs.Plain.{name_plain}
use Rattle.st_report.proofs.json_report.put_front.Goals as goal

pub text_value-requires : goal.text_value-requires
text_value-requires c = name_plain c.bytes.result.now c.bytes.ensures.spelling

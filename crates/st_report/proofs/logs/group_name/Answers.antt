use Rattle.st_entry.proofs.Plain.{name_plain}
use Rattle.st_report.proofs.logs.group_name.Goals as goal

pub returns-in-Some-clause-plain : goal.returns-in-Some-clause-plain
returns-in-Some-clause-plain c = name_plain c.bytes.result.now c.bytes.ensures.spelling

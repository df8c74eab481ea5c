use Rattle.std.proofs.Common.{◌∙◌, ap}
use Rattle.st_entry.specs.Plain.{is_plain}
use Rattle.st_entry.proofs.Plain.{entity_plain}
use Rattle.st_report.proofs.logs.name_in.Goals as goal

pub returns-in-Some-clause-plain : goal.returns-in-Some-clause-plain
returns-in-Some-clause-plain c = ap is_plain c.entity_name.ensures ∙ entity_plain c.topo-topo.result.now c.args.entity c.is_sound.ensures

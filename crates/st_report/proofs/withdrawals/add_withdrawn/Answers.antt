use Rattle.std.proofs.Common.{◌∙◌, ap}
use Rattle.st_entry.specs.Plain.{is_plain}
use Rattle.st_report.proofs.Plain.{withdrawn_plain}
use Rattle.st_report.proofs.withdrawals.add_withdrawn.Goals as goal

pub add-requires : goal.add-requires
add-requires c = ap is_plain c.in_ok-withdrawn_text-in-Withdrawn.ensures ∙ withdrawn_plain c.args.topo.now c.in-Withdrawn.version _ c.is_sound.ensures

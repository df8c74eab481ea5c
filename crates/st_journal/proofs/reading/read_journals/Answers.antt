use Rattle.std.proofs.lemmas.Result.{IfOk-weaker}
use Rattle.st_journal.proofs.ReadJournals.{told, one_of_each}
use Rattle.st_journal.proofs.reading.read_journals.Goals as goal

pub returns-clause-tells : goal.returns-clause-tells
returns-clause-tells c = IfOk-weaker _ _ _ (λ answer. told c.args.topos.now c.args.apps.now c.args.line c.args.bytes.now answer) c.read_text.ensures

pub returns-clause-each : goal.returns-clause-each
returns-clause-each c = IfOk-weaker _ _ _ (λ answer. one_of_each c.args.topos.now c.args.apps.now c.args.line c.args.bytes.now answer c.are_sound.ensures) c.read_text.ensures

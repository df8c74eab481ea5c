use Rattle.std.proofs.Common.{◌-◌, [], length, arith}
use Rattle.std.proofs.lemmas.Result.{IfOk-weaker}
use Rattle.st_replay.proofs.FewEntries.{few_behind, few_entries}
use Rattle.st_replay.proofs.replaying.journals_read.Goals as goal

pub returns-in-Some-clause-short : goal.returns-in-Some-clause-short
returns-in-Some-clause-short c =
    let at = c.in-Some.at in
    let bytes = c.args.bytes.now in
    IfOk-weaker _ _ _ (λ answer. few_behind c.args.topos.now c.as_slice.result.now at.line (length bytes - at.byte) at.byte bytes answer c.requires.few) c.read_journals.ensures.exact

pub returns-clause-short : goal.returns-clause-short
returns-clause-short c = IfOk-weaker _ _ _ (λ answer. few_entries c.args.topos.now c.as_slice-in-None.result.now 1 [] answer (omega arith)) c.read_journals-in-None.ensures.exact

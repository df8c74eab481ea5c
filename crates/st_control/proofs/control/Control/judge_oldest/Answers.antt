use Rattle.std.proofs.Common.{◌∙◌, ap, subst}
use Rattle.st_net.specs.Ranges.{RowsFit}
use Rattle.st_store.specs.Store.{IsOldest, proposal_of}
use Rattle.st_control.specs.Control.{ControlView}
use Rattle.st_control.proofs.CheckLemmas.{due_as}
use Rattle.st_control.proofs.RunLaws.{first_fits}
use Rattle.st_control.proofs.control.Control.judge_oldest.Goals as goal

pub weigh_rows-requires : goal.weigh_rows-requires
weigh_rows-requires c =
    subst (λ (k : ControlView). RowsFit k.group c.in-Some.oldest.now.rows) c.self.view_is
    (first_fits c.self.inside.topo c.self.inside.store.pending (proposal_of c.in-Some.oldest.now) _ c.self.invariant.fits c.in-Some.ensures.some.first)

pub returns-clause-due : goal.returns-clause-due
returns-clause-due c =
    let p = c.in-Some.oldest.now in
    let oldest = subst (λ (k : ControlView). IsOldest k.store p) c.self.view_is c.in-Some.ensures.some in
    let judged = c.in_ok-refusal.ensures.judged (proposal_of p) c.in_ok-rows.ensures.judged in
    let last = c.version-version.ensures.version ∙ ap (λ (k : ControlView). k.store.version) c.self.view_is in
    due_as c.args.self.now c.weigh.new.self c.weigh.new.self.flows_run c.args.entry c.version-version.result p c.in_ok-refusal.field-0 c.verdict_of.result c.in_ok-refusal.ensures.same oldest judged last c.verdict_of.ensures

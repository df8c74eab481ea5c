use Rattle.std.proofs.Common.{◌≡◌, List, get_or, sym, subst, ap, ◌∙◌}
use Rattle.st_net.specs.declared.message.Report.{Report}
use Rattle.st_net.specs.Groups.{IsEntityOf}
use Rattle.st_net.specs.InOrder.{report_in}
use Rattle.st_event.specs.Judge.{lack_at}
use Rattle.st_overlay.specs.Values.{Values, value_in, vals_at}
use Rattle.st_control.specs.Inside.{checker_of}
use Rattle.st_control.specs.Control.{ControlView, Sends}
use Rattle.st_control.specs.declared.send.SendStep.TheVariants.{Command}
use Rattle.st_control.proofs.SendLemmas.{seen_at, sends_command}
use Rattle.st_control.proofs.StampLaws.{stamp_at}
use Rattle.st_control.proofs.control.Control.send.Goals as goal

pub returns-in-None : goal.returns-in-None
returns-in-None c =
    let k = checker_of c.self.inside in
    let e = c.args.entity in
    let row = c.governing_row-row.result in
    let here = subst (λ (k : ControlView). IsEntityOf k.group e) (sym c.self.view_is) c.requires in
    let of = c.self.invariant.store_of in
    let stamp = c.index-stamp.ensures ∙ stamp_at k.group k.stamps e c.place-place.result c.index-stamp.result.now c.place-place.ensures.place here c.self.invariant.stamp_count in
    let vals = c.get-target.ensures ∙ ap (λ (t : Values). vals_at t e) c.target-table.ensures.target in
    let free : lack_at k.group (report_in k.group k.store.observed) (value_in k.store.target) row.entity row.var ≡ _ = rw (← c.observed-observed.ensures, ← c.target-table.ensures.target) (sym c.lack.ensures ∙ c.in-None.is) in
    subst (λ (k : ControlView). Sends k e (Command (record { entity = e; stamp = c.index-stamp.result.now; vals = c.get-target.result }))) c.self.view_is
    (sends_command k e (get_or c.observed-observed.result.now c.place-place.result _) c.index-stamp.result.now c.get-target.result row
    (ap (λ (observed : List Report). get_or observed c.place-place.result _) c.observed-observed.ensures ∙ seen_at k.group k.store.observed e c.place-place.result _ c.place-place.ensures.place here of.reports)
    stamp vals of.table (sym c.settled.ensures ∙ c.if-settled.false) c.governing_row-row.ensures free)

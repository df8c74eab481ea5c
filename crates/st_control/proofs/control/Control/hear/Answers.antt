use Rattle.std.proofs.Common.{◌≡◌, rules, set, sym, subst, ap, ◌∙◌}
use Rattle.std.specs.Prelude.{false}
use Rattle.st_event.specs.Moments.{is_taken}
use Rattle.st_net.specs.Groups.{IsEntityOf}
use Rattle.st_net.specs.InOrder.{stamp_in}
use Rattle.st_overlay.specs.Values.{Values, vals_at}
use Rattle.st_store.specs.declared.reports.Keep.TheVariants.{Taken}
use Rattle.st_control.specs.Control.{ControlView, Hears, reply_of_keep}
use Rattle.st_control.specs.Inside.{checker_of}
use Rattle.st_control.proofs.HearLemmas.{shows_as, stamps_heard, stamps_renewed, stamps_left, stamps_kept, hears}
use Rattle.st_control.proofs.control.Control.hear.Goals as goal
use Rattle.st_control.proofs.control.Control.hear.Goals.{else-eq-via-then-eq+else-is_renewed, else-eq-via-else-eq}

pub returns-then-is_renewed-clause-hears : goal.returns-then-is_renewed-clause-hears
returns-then-is_renewed-clause-hears c =
    let k = checker_of c.self.inside in
    let r = c.args.report in
    let here = subst (λ (k : ControlView). IsEntityOf k.group r.entity) (sym c.self.view_is) c.requires in
    let taken : c.keep-keep.result ≡ Taken = search rules in
    let shows = shows_as k r c.place-place.result c.index.result.now c.get-target.result c.shows_other-is_renewed.result c.self.invariant here c.place-place.ensures.place c.index.ensures
    (c.get-target.ensures ∙ ap (λ (t : Values). vals_at t r.entity) c.target.ensures.target) c.shows_other-is_renewed.ensures in
    subst (λ (old : ControlView). Hears old (record k { store = c.keep-keep.new.self; stamps = set k.stamps c.place-place.result c.args.entry }) c.args.entry r c.keep-keep.result) c.self.view_is
    (hears k c.keep-keep.new.self (set k.stamps c.place-place.result c.args.entry) c.args.entry r c.keep-keep.result c.self.invariant c.keep-keep.ensures.keeps c.keep-keep.ensures.rest
    (stamps_renewed k c.args.entry c.place-place.result r c.keep-keep.result c.self.invariant here c.place-place.ensures.place taken (sym shows ∙ c.if-is_renewed.true)))

pub returns-else-eq-clause-hears : goal.returns-else-eq-clause-hears
returns-else-eq-clause-hears c =
    let k = checker_of c.self.inside in
    let r = c.args.report in
    let heard = λ (stamped : stamp_in k.group k.stamps ≡ stamps_heard k c.args.entry r c.keep-keep.result).
    subst (λ (old : ControlView). Hears old (record k { store = c.keep-keep.new.self }) c.args.entry r c.keep-keep.result) c.self.view_is
    (hears k c.keep-keep.new.self k.stamps c.args.entry r c.keep-keep.result c.self.invariant c.keep-keep.ensures.keeps c.keep-keep.ensures.rest stamped) in
    elim c.else-eq.branch [
      | else-eq-via-then-eq+else-is_renewed w ↦
          let here = subst (λ (k : ControlView). IsEntityOf k.group r.entity) (sym c.self.view_is) c.requires in
          let taken : c.keep-keep.result ≡ Taken = search rules in
          let shows = shows_as k r c.place-place.result c.index.result.now c.get-target.result c.shows_other-is_renewed.result c.self.invariant here c.place-place.ensures.place c.index.ensures
          (c.get-target.ensures ∙ ap (λ (t : Values). vals_at t r.entity) c.target.ensures.target) c.shows_other-is_renewed.ensures in
          rw w.self-is (heard (stamps_left k c.args.entry r c.keep-keep.result taken (sym shows ∙ w.if-is_renewed.false)))
      | else-eq-via-else-eq w ↦
          let old : is_taken (reply_of_keep c.keep-keep.result) ≡ false = search rules in
          rw w.self-is (heard (stamps_kept k c.args.entry r c.keep-keep.result old))
    ]

pub returns-then-is_renewed-clause-runs : goal.returns-then-is_renewed-clause-runs
returns-then-is_renewed-clause-runs c = ap (λ (k : ControlView). k.flows_run) c.self.view_is

pub returns-else-eq-clause-runs : goal.returns-else-eq-clause-runs
returns-else-eq-clause-runs c =
    elim c.else-eq.branch [
      | else-eq-via-then-eq+else-is_renewed w ↦ rw w.self-is (ap (λ (k : ControlView). k.flows_run) c.self.view_is)
      | else-eq-via-else-eq w ↦ rw w.self-is (ap (λ (k : ControlView). k.flows_run) c.self.view_is)
    ]

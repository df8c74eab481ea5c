use Rattle.std.proofs.Common.{◌≡◌, set, subst, sym}
use Rattle.std.specs.Prelude.{Some}
use Rattle.st_net.specs.Groups.{IsEntityOf}
use Rattle.st_event.specs.declared.event.Event.TheVariants.{Withdraw}
use Rattle.st_event.specs.declared.reply.Reply.TheVariants.{Withdrawn}
use Rattle.st_control.specs.Control.{ControlView, Moves}
use Rattle.st_control.specs.Inside.{checker_of}
use Rattle.st_control.specs.Verdict.{IsLatest}
use Rattle.st_control.specs.Withdrawals.{withdrawal_due}
use Rattle.st_control.proofs.WithdrawLemmas.{due_in, entity_in, stamped_back, withdraw_moves}
use Rattle.st_control.proofs.control.Control.merge_back.Goals as goal

pub withdraw-requires-clause-fits : goal.withdraw-requires-clause-fits
withdraw-requires-clause-fits c =
    let k = checker_of c.self.inside in
    let due = subst (λ (k : ControlView). Some c.args.rows ≡ withdrawal_due k c.args.entity) (sym c.self.view_is) c.requires.due in
    let here = subst (λ (k : ControlView). IsEntityOf k.group c.args.entity) (sym c.self.view_is) c.requires.entity in
    due_in k c.args.entity c.args.rows due (entity_in k.group k.store.target c.args.entity c.self.invariant.store_of.table here)

pub returns-clause-ok : goal.returns-clause-ok
returns-clause-ok c =
    let k = checker_of c.self.inside in
    let due = subst (λ (k : ControlView). Some c.args.rows ≡ withdrawal_due k c.args.entity) (sym c.self.view_is) c.requires.due in
    let here = subst (λ (k : ControlView). IsEntityOf k.group c.args.entity) (sym c.self.view_is) c.requires.entity in
    let latest = subst (λ (k : ControlView). IsLatest k.store) (sym c.self.view_is) c.requires.latest in
    let stamped = stamped_back k c.args.entry c.place-place.result c.args.entity c.args.rows here c.place-place.ensures.place c.self.invariant.stamp_count due in
    subst (λ (old : ControlView). Moves old (record k { store = c.withdraw.new.self; stamps = set k.stamps c.place-place.result c.args.entry }) c.args.entry (Withdraw c.args.entity) (Withdrawn c.in_ok-version.version c.args.rows)) c.self.view_is
    (withdraw_moves k c.withdraw.new.self (set k.stamps c.place-place.result c.args.entry) c.args.entry c.in_ok-version.version c.args.entity c.args.rows due latest c.in_ok-version.ensures.ok c.in_ok-version.ensures.version stamped)

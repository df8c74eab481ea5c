use Rattle.std.proofs.Common.{◌≡◌, ℕ, List, ◌++◌, length, take, drop, ap, sym, subst, ◌∙◌}
use Rattle.std.specs.Prelude.{if◌then◌else◌}
use Rattle.st_net.specs.declared.entity.Entity.{Entity}
use Rattle.st_net.specs.Sets.{is_in}
use Rattle.st_net.specs.InOrder.{stamp_in}
use Rattle.st_event.specs.declared.event.Event.TheVariants.{Check}
use Rattle.st_event.specs.declared.reply.Reply.TheVariants.{Decided}
use Rattle.st_control.specs.Control.{ControlView, Moves}
use Rattle.st_control.specs.Inside.{checker_of}
use Rattle.st_control.specs.Verdict.{IsDue, IsLatest}
use Rattle.st_control.proofs.CheckLemmas.{refused_moves, accepted_moves}
use Rattle.st_control.proofs.StampLaws.{whole}
use Rattle.st_control.proofs.StoreLaws.{store_decided}
use Rattle.st_control.proofs.control.Control.decide.Goals as goal

pub invariant_of-self-in-Refused : goal.invariant_of-self-in-Refused
invariant_of-self-in-Refused c =
    let kept = store_decided c.self.inside.topo c.self.inside.store c.decide.new.self _ _ c.self.invariant.store_of c.self.invariant.fits c.in_ok-_version-in-Refused.ensures.ok in
    record {
      store_of = kept.of;
      fits = kept.fits;
      lock_rows = c.self.invariant.lock_rows;
      stamp_count = c.self.invariant.stamp_count;
      book_is = c.self.invariant.book_is;
      shared_is = c.self.invariant.shared_is;
    }

pub returns-in_ok-_version-in-Refused-clause-ok : goal.returns-in_ok-_version-in-Refused-clause-ok
returns-in_ok-_version-in-Refused-clause-ok c =
    let due = subst (λ (k : ControlView). IsDue k c.args.decision.now) (sym c.self.view_is) c.requires.due in
    subst (λ (k : ControlView). Moves k (record (checker_of c.self.inside) { store = c.decide.new.self }) c.args.decision.now.receipt.entry Check (Decided c.args.decision.now.receipt)) c.self.view_is
    (refused_moves (checker_of c.self.inside) c.decide.new.self c.args.decision.now c.in-Refused.field-0 due c.in-Refused.is c.in_ok-_version-in-Refused.ensures.ok)

pub invariant_of-self-in-Accepted : goal.invariant_of-self-in-Accepted
invariant_of-self-in-Accepted c =
    let kept = store_decided c.self.inside.topo c.self.inside.store c.decide-in-Accepted.new.self _ _ c.self.invariant.store_of c.self.invariant.fits c.in_ok-_version-in-Accepted.ensures.ok in
    let back = whole c.self.inside.stamps.len c.stamp_all.new.stamps (drop (length c.stamp_all.new.stamps) c.self.inside.stamps.items) (sym (c.stamp_all.ensures.count ∙ c.as_mut_slice.ensures.len)) in
    record {
      store_of = kept.of;
      fits = kept.fits;
      lock_rows = c.self.invariant.lock_rows;
      stamp_count = ap length back ∙ c.stamp_all.ensures.count ∙ ap length c.as_mut_slice.ensures.value ∙ c.self.invariant.stamp_count;
      book_is = c.self.invariant.book_is;
      shared_is = c.self.invariant.shared_is;
    }

pub returns-in_ok-_version-in-Accepted-clause-ok : goal.returns-in_ok-_version-in-Accepted-clause-ok
returns-in_ok-_version-in-Accepted-clause-ok c =
    let d = c.args.decision.now in
    let stamps = take c.self.inside.stamps.len (c.stamp_all.new.stamps ++ drop (length c.stamp_all.new.stamps) c.self.inside.stamps.items) in
    let back : stamps ≡ c.stamp_all.new.stamps = whole c.self.inside.stamps.len c.stamp_all.new.stamps (drop (length c.stamp_all.new.stamps) c.self.inside.stamps.items) (sym (c.stamp_all.ensures.count ∙ c.as_mut_slice.ensures.len)) in
    let stamped = ap (stamp_in c.self.inside.topo) back ∙ subst (λ (old : List ℕ). stamp_in c.self.inside.topo c.stamp_all.new.stamps ≡ (λ (e : Entity). if is_in c.args.decision.now.changed e then c.args.decision.now.receipt.entry else stamp_in c.self.inside.topo old e)) c.as_mut_slice.ensures.value c.stamp_all.ensures.stamps in
    let due = subst (λ (k : ControlView). IsDue k c.args.decision.now) (sym c.self.view_is) c.requires.due in
    let latest = subst (λ (k : ControlView). IsLatest k.store) (sym c.self.view_is) c.requires.latest in
    subst (λ (k : ControlView). Moves k (record (checker_of c.self.inside) { store = c.decide-in-Accepted.new.self; stamps = stamps }) c.args.decision.now.receipt.entry Check (Decided c.args.decision.now.receipt)) c.self.view_is
    (accepted_moves (checker_of c.self.inside) c.decide-in-Accepted.new.self stamps d c.in-Accepted.version due c.in-Accepted.is latest c.in_ok-_version-in-Accepted.ensures.ok stamped)

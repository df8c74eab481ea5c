use Rattle.std.proofs.Common.{◌+◌, length, ap, sym, subst, ◌∙◌, arith}
use Rattle.st_net.specs.Groups.{Group}
use Rattle.st_promise.specs.Book.{AreKept}
use Rattle.st_net.specs.Sets.{is_in}
use Rattle.st_event.specs.Proposals.{first_rows}
use Rattle.st_control.specs.Control.{ControlView}
use Rattle.st_control.proofs.BasisLaws.{left_is}
use Rattle.st_control.proofs.control.Control.begin_check.Goals as goal

pub new-requires-clause-known : goal.new-requires-clause-known
new-requires-clause-known c =
    subst (λ (g : Group). AreKept g (is_in c.in_ok-sure.field-0.after) c.in_ok-known.known.items) (sym (c.in_ok-topo.ensures ∙ c.self.invariant.shared_is)) c.in_ok-known.ensures.kept

pub returns : goal.returns
returns c =
    let k = c.args.self.now in
    let oldest = c.in-Some.ensures.some in
    let counted = c.version-version.ensures.counted in
    let made = c.new.ensures in
    let ticket = ap (λ b. b.ticket) made ∙ oldest.ticket in
    let waits = ap length oldest.first in
    record {
      group = ap (λ b. b.group) made ∙ c.in_ok-topo.ensures ∙ c.self.invariant.shared_is ∙ ap (λ (k : ControlView). k.group) c.self.view_is;
      oldest = ticket ∙ ap (λ (k : ControlView). length k.store.decided + 1) c.self.view_is;
      given = rw (← c.self.view_is) (omega (arith, ticket, waits, counted.counted));
      sure = ap (λ b. is_in b.sure) made ∙ c.in_ok-sure.ensures.sure;
      after = ap (λ b. is_in b.after) made ∙ left_is k c.in_ok-sure.field-0.after c.in_ok-changed.changed c.as_slice-rows.result.now c.in_ok-sure.ensures.after (rw (← c.self.view_is, ← c.target.ensures.target) c.in_ok-changed.ensures.altered) (c.as_slice-rows.ensures ∙ sym (ap first_rows oldest.first) ∙ ap (λ (k : ControlView). first_rows k.store.pending) c.self.view_is);
    }

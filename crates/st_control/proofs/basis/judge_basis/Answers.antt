use Rattle.std.proofs.Common.{ap, ◌∙◌}
use Rattle.st_net.specs.Groups.{Group}
use Rattle.st_net.specs.Demands.{first_broken_of}
use Rattle.st_net.specs.Sets.{is_in}
use Rattle.st_control.proofs.basis.judge_basis.Goals as goal

pub judge_to_first-requires-clause-known : goal.judge_to_first-requires-clause-known
judge_to_first-requires-clause-known g c = λ κs lives. rw (c.deref.ensures, c.as_slice-2.ensures.value) c.basis.invariant.known

pub invariant_of-result : goal.invariant_of-result
invariant_of-result g c = record {
  ticket = c.basis.invariant.ticket;
  sure = c.basis.invariant.sure;
  after = c.basis.invariant.after;
  first = c.in_ok-first.ensures.first ∙ ap (λ (h : Group). first_broken_of h (is_in c.basis.inside.sure) (is_in c.basis.inside.after)) c.deref.ensures;
  holds = rw c.deref.ensures at c.in_ok-first.ensures.holds;
}

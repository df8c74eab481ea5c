-- The line of a room is its journal, and its units and entries come to the most that there may be.
use Rattle.std.proofs.Common.{◌≡◌, ap, sym, ◌∙◌, length, arith}
use Rattle.st_event.specs.History.{History}
use Rattle.st_service.specs.Lines.{flat}
use Rattle.st_service.specs.Made.{past_in}
use Rattle.st_service.proofs.HoldLaws.{length_past}
use Rattle.st_service.proofs.close.shut_one.Goals as goal

pub invariant_of-result : goal.invariant_of-result
invariant_of-result g c =
    let old = c.args.locked in
    let history = c.in-Ok.ensures.history in
    record {
      named = old.makers.named ∙ ap g.J.Naming.book old.of_group;
      kept = old.kept ∙ ap (λ (h : History). h.past) (sym history);
      asked = old.makers.asked;
      group_is = ap (λ (h : History). h.group) history ∙ old.group_is;
      board_is = c.in-Ok.ensures.book ∙ old.board_is;
    }

pub returns-in-Ok-clause-units : goal.returns-in-Ok-clause-units
returns-in-Ok-clause-units g c =
    let old = c.args.locked in
    let kept : past_in (flat old.makers.line.log) ≡ old.room.history.past = old.kept in
    let long : length (flat old.makers.line.log) ≡ length old.room.history.past = sym (length_past (flat old.makers.line.log)) ∙ ap length kept in
    omega (arith, c.merge.ensures.amount, old.left, long)

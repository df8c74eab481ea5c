use Rattle.std.proofs.Common.{◌∙◌, sym, arith}
use Rattle.std.proofs.lemmas.List.Sums.{position_or_len_is}
use Rattle.st_player.specs.declared.state.State.{State}
use Rattle.st_player.specs.Pictures.{is_same_state}
use Rattle.st_player.proofs.PictureLemmas.{found_at, not_at}
use Rattle.st_player.proofs.openings.kind_in.Goals as goal

pub returns-then-is_same_state : goal.returns-then-is_same_state
returns-then-is_same_state c = found_at c.args.kinds.now c.args.state.now c.loop-i.i c.loop-i-test.true (sym c.is_same_state.ensures ∙ c.if-is_same_state.true) c.loop-i.invariant

pub loop-i-preserved : goal.loop-i-preserved
loop-i-preserved c = not_at c.args.kinds.now c.args.state.now c.loop-i.i c.loop-i-test.true (sym c.is_same_state.ensures ∙ c.if-is_same_state.false) c.loop-i.invariant

pub returns : goal.returns
returns c = sym (position_or_len_is (λ (kind : State). is_same_state kind c.args.state.now) c.args.kinds.now _ c.args.state.now (omega arith) (λ k low. c.loop-i.invariant k c.args.state.now (omega (arith, low, c.loop-i-test.false))) (λ low. absurd (omega (arith, low))))

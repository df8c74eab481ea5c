use Rattle.std.proofs.lemmas.Bool.Decides.{nat_tests}
use Rattle.st_player.specs.declared.state.State.{State}
use Rattle.std.proofs.Common.{List, arith, ◌≡◌, ◌∙◌, ap, length, get_or, true, false}
use Rattle.std.specs.Prelude.{◌==◌}
use Rattle.st_player.specs.Pictures.{kind_in, kinds_of}
use Rattle.st_player.proofs.PictureLemmas.{kinds_put, kinds_skip, no_state, other_numbers}
use Rattle.st_player.proofs.openings.kinds_of.Goals as goal
use Rattle.st_player.proofs.openings.kinds_of.Goals.{then-kind_in-len+in_ok-push, else-kind_in-len}

pub loop-state-preserved : goal.loop-state-preserved
loop-state-preserved c =
    let states = c.args.states.now in
    let i = c.loop-state.state-index in
    let kinds = c.loop-state.kinds.items in
    elim c.if-kind_in-len.branch [
      | then-kind_in-len+in_ok-push w ↦
          let all : (kind_in kinds (get_or states i no_state) == length kinds) ≡ true = grind (arith, nat_tests, w.if-kind_in-len.true, c.kind_in.ensures, c.len.ensures, ap length c.as_slice.ensures.value) in
          kinds_put kinds c.if-kind_in-len.kinds.items (kinds_of states) i states c.loop-state-test.true all (ap (λ v. v.items) w.kinds-is ∙ w.in_ok-push.ensures.items) c.loop-state.invariant
      | else-kind_in-len w ↦
          let some : (kind_in kinds (get_or states i no_state) == length kinds) ≡ false = other_numbers _ (length kinds) c.kind_in.result c.len.result w.if-kind_in-len.false (c.kind_in.ensures ∙ ap (λ (ks : List State). kind_in ks (get_or states i no_state)) c.as_slice.ensures.value) (c.len.ensures ∙ c.loop-state.kinds.ok.0) in
          rw w.kinds-is (kinds_skip kinds (kinds_of states) i states c.loop-state-test.true some c.loop-state.invariant)
    ]

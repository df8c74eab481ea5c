use Rattle.std.proofs.Common.{List, ◌∙◌, ap, sym, arith, map, take, get_or, ℕ, ◌++◌, ◌∷◌, []}
use Rattle.std.proofs.lemmas.List.{map_more}
use Rattle.st_player.specs.declared.state.State.{State}
use Rattle.st_player.specs.Pictures.{is_same_state, kind_in}
use Rattle.st_player.proofs.PictureLemmas.{no_state, place_low}
use Rattle.st_player.proofs.openings.places_in.Goals as goal

pub overflow_cast-kind_in : goal.overflow_cast-kind_in
overflow_cast-kind_in c =
    let s = get_or c.args.states.now c.loop-state.state-index no_state in
    record { fits = omega (arith, c.kind_in.ensures, place_low (λ (kind : State). is_same_state kind s) c.args.kinds.now, c.requires) }

pub loop-state-preserved : goal.loop-state-preserved
loop-state-preserved c =
    let places = map (kind_in c.args.kinds.now) (take c.loop-state.state-index c.args.states.now) in
    c.in_ok-push.ensures.items ∙ (ap (λ (ps : List ℕ). ps ++ c.kind_in.result ∷ []) c.loop-state.invariant ∙ (ap (λ (p : ℕ). places ++ p ∷ []) c.kind_in.ensures ∙ sym (map_more (kind_in c.args.kinds.now) c.args.states.now c.loop-state.state-index no_state c.loop-state-test.true)))

use Rattle.std.proofs.Common.{◌≡◌, ◌<◌, ◌+◌, ◌∙◌, ℕ, false, get_or, length, map, refl, ap, sym, subst, arith}
use Rattle.serde_json.specs.View.{view}
use Rattle.st_net.specs.Groups.{Group}
use Rattle.st_net.specs.InOrder.{entities_of}
use Rattle.st_event.specs.History.{History}
use Rattle.st_player.specs.Touched.{HasMarks, IsRenewed, may_show}
use Rattle.st_player.proofs.ChangeLemmas.{shown_past}
use Rattle.st_player.proofs.changes.renew_shown.Goals as goal
use Rattle.st_player.proofs.changes.renew_shown.Goals.{then-may_show+in_ok-renew, else-may_show}

pub may_show-requires-clause-marks : goal.may_show-requires-clause-marks
may_show-requires-clause-marks c =
    let group : c.topo-topo.result.now ≡ c.args.behind.now.group = c.topo-topo.ensures.topo ∙ (c.control.ensures.group ∙ ap (λ (m : History). m.group) c.world.ensures) in
    subst (λ (g : Group). HasMarks g c.args.touched.now) (sym group) c.requires.marks

pub loop-place-preserved : goal.loop-place-preserved
loop-place-preserved c =
    let k = c.args.behind.now in
    let i = c.loop-place.place in
    let touched = c.args.touched.now in
    let group : c.topo-topo.result.now ≡ k.group = c.topo-topo.ensures.topo ∙ (c.control.ensures.group ∙ ap (λ (m : History). m.group) c.world.ensures) in
    let low : i < length (entities_of k.group) = omega (arith, c.loop-place-test.true, c.entity_count-place-end.ensures, ap (λ (g : Group). length (entities_of g)) group) in
    elim c.if-may_show.branch [
      | then-may_show+in_ok-renew w ↦
          rw (w.states-is, w.list-is) (
            w.in_ok-renew.ensures.count ∙ c.loop-place.invariant.0,
            λ h touches begun. w.in_ok-renew.ensures.renewed h (c.loop-place.invariant.1 h touches begun),
          )
      | else-may_show w ↦
          let e = c.entity_at.result in
          let at : e ≡ get_or (entities_of k.group) i e = c.entity_at.ensures.at ∙ ap (λ (g : Group). get_or (entities_of g) i e) group in
          let other : may_show k.group touched e ≡ false = sym (c.may_show.ensures ∙ ap (λ (g : Group). may_show g touched e) group) ∙ w.if-may_show.false in
          rw (w.states-is, w.list-is) (
            c.loop-place.invariant.0,
            λ h touches begun. shown_past h k touched i (i + 1) e c.loop-place.states (map view c.loop-place.list) refl low at other touches (c.loop-place.invariant.1 h touches begun),
          )
    ]

pub returns-clause-renewed : goal.returns-clause-renewed
returns-clause-renewed c h touches begun =
    let k = c.args.behind.now in
    let group : c.topo-topo.result.now ≡ k.group = c.topo-topo.ensures.topo ∙ (c.control.ensures.group ∙ ap (λ (m : History). m.group) c.world.ensures) in
    let count : c.entity_count-place-end.result ≡ length (entities_of k.group) = c.entity_count-place-end.ensures ∙ ap (λ (g : Group). length (entities_of g)) group in
    let all : c.loop-place.place ≡ length (entities_of k.group) = omega (arith, count, c.loop-place-test.false, c.loop-place.auto.place-end) in
    subst (λ (n : ℕ). IsRenewed h k n c.loop-place.states (map view c.loop-place.list)) all (c.loop-place.invariant.1 h touches begun)

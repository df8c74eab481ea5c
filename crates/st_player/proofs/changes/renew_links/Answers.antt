use Rattle.std.proofs.Common.{◌≡◌, ◌<◌, ◌+◌, ◌∙◌, ℕ, false, length, map, refl, ap, sym, subst, arith}
use Rattle.serde_json.specs.View.{view}
use Rattle.st_net.specs.declared.entity.Entity.TheVariants.{Device, Link}
use Rattle.st_net.specs.Groups.{Group}
use Rattle.st_net.specs.InOrder.{entities_of}
use Rattle.st_net.proofs.EntityOrder.{entities_count}
use Rattle.st_event.specs.History.{History}
use Rattle.st_player.specs.declared.touched.Touched.TheVariants.{Near}
use Rattle.st_player.specs.Touched.{IsRenewed, may_show}
use Rattle.st_player.proofs.ChangeLemmas.{link_past}
use Rattle.st_player.proofs.changes.renew_links.Goals as goal
use Rattle.st_player.proofs.changes.renew_links.Goals.{then-shows_near+in_ok-renew, else-shows_near}

pub renew-requires-clause-place : goal.renew-requires-clause-place
renew-requires-clause-place c =
    let k = c.args.behind.now in
    let topo = c.topo-topo.result.now in
    let group : topo ≡ k.group = c.topo-topo.ensures.topo ∙ (c.control.ensures.group ∙ ap (λ (m : History). m.group) c.world.ensures) in
    let low : c.device_count.result + c.loop-i.i < length (entities_of topo) = omega (arith, c.device_count.ensures, c.loop-i-test.true, c.link_count-i-end.ensures, entities_count topo) in
    subst (λ (g : Group). c.device_count.result + c.loop-i.i < length (entities_of g)) group low

pub loop-i-preserved : goal.loop-i-preserved
loop-i-preserved c =
    let k = c.args.behind.now in
    let d = c.args.device in
    let i = c.loop-i.i in
    let group : c.topo-topo.result.now ≡ k.group = c.topo-topo.ensures.topo ∙ (c.control.ensures.group ∙ ap (λ (m : History). m.group) c.world.ensures) in
    let low : i < length k.group.links = omega (arith, c.loop-i-test.true, c.link_count-i-end.ensures, ap (λ (g : Group). length g.links) group) in
    elim c.if-shows_near.branch [
      | then-shows_near+in_ok-renew w ↦
          let here : w.device_count.result + i ≡ length k.group.devices + i = ap (λ (n : ℕ). n + i) (w.device_count.ensures ∙ ap (λ (g : Group). length g.devices) group) in
          let next : w.device_count.result + i + 1 ≡ length k.group.devices + (i + 1) = omega (arith, here) in
          rw (w.states-is, w.list-is) (
            w.in_ok-renew.ensures.count ∙ c.loop-i.invariant.0,
            λ h touches begun. subst (λ (n : ℕ). IsRenewed h k n w.renew.new.states (map view w.renew.new.list)) next
                (w.in_ok-renew.ensures.renewed h (subst (λ (n : ℕ). IsRenewed h k n c.loop-i.states (map view c.loop-i.list)) (sym here) (c.loop-i.invariant.1 h touches begun))),
          )
      | else-shows_near w ↦
          let other : may_show k.group (Near (Device d)) (Link i) ≡ false = sym (c.shows_near.ensures ∙ ap (λ (g : Group). may_show g (Near (Device d)) (Link i)) group) ∙ w.if-shows_near.false in
          rw (w.states-is, w.list-is) (
            c.loop-i.invariant.0,
            λ h touches begun. link_past h k d i (length k.group.devices + i) (length k.group.devices + (i + 1)) c.loop-i.states (map view c.loop-i.list) refl (omega arith) low other touches (c.loop-i.invariant.1 h touches begun),
          )
    ]

pub returns-clause-renewed : goal.returns-clause-renewed
returns-clause-renewed c h touches begun =
    let k = c.args.behind.now in
    let group : c.topo-topo.result.now ≡ k.group = c.topo-topo.ensures.topo ∙ (c.control.ensures.group ∙ ap (λ (m : History). m.group) c.world.ensures) in
    let count : c.link_count-i-end.result ≡ length k.group.links = c.link_count-i-end.ensures ∙ ap (λ (g : Group). length g.links) group in
    let all : length k.group.devices + c.loop-i.i ≡ length (entities_of k.group) = omega (arith, count, c.loop-i-test.false, c.loop-i.auto.i-end, entities_count k.group) in
    subst (λ (n : ℕ). IsRenewed h k n c.loop-i.states (map view c.loop-i.list)) all (c.loop-i.invariant.1 h touches begun)

use Rattle.std.proofs.Common.{◌≡◌, ◌<◌, ◌+◌, ◌∙◌, ℕ, length, map, ap, sym, subst, arith}
use Rattle.serde_json.specs.View.{view}
use Rattle.st_net.specs.declared.entity.Entity.{Entity}
use Rattle.st_net.specs.declared.entity.Entity.TheVariants.{Device, Link}
use Rattle.st_net.specs.Groups.{Group, IsEntityOf}
use Rattle.st_net.specs.InOrder.{entities_of, place_in}
use Rattle.st_net.proofs.EntityOrder.{entities_count}
use Rattle.st_event.specs.History.{History}
use Rattle.st_player.specs.declared.touched.Touched.TheVariants.{Near}
use Rattle.st_player.specs.Touched.{IsRenewed, Touches}
use Rattle.st_player.proofs.ChangeLemmas.{before_it, behind_device, behind_link}
use Rattle.st_player.proofs.changes.renew_near.Goals as goal

pub overflow_cast-place : goal.overflow_cast-place
overflow_cast-place c = omega (arith, c.place.ensures.within, c.is_sound.ensures.few_devices, c.is_sound.ensures.few_links)

pub renew-requires-clause-place : goal.renew-requires-clause-place
renew-requires-clause-place c =
    let k = c.args.behind.now in
    let group : c.topo-topo.result.now ≡ k.group = c.topo-topo.ensures.topo ∙ (c.control.ensures.group ∙ ap (λ (m : History). m.group) c.world.ensures) in
    let low : c.place.result < length (entities_of c.topo-topo.result.now) = omega (arith, c.place.ensures.within, entities_count c.topo-topo.result.now) in
    subst (λ (g : Group). c.place.result < length (entities_of g)) group low

pub returns-in-Device : goal.returns-in-Device
returns-in-Device c =
    let k = c.args.behind.now in
    let d = c.in-Device.device in
    let group : c.topo-topo.result.now ≡ k.group = c.topo-topo.ensures.topo ∙ (c.control.ensures.group ∙ ap (λ (m : History). m.group) c.world.ensures) in
    let place : c.place.result ≡ place_in k.group c.args.at = c.place.ensures.place ∙ ap (λ (g : Group). place_in g c.args.at) group in
    let next : c.place.result + 1 ≡ d + 1 = ap (λ (n : ℕ). n + 1) (place ∙ ap (place_in k.group) c.in-Device.is) in
    let here : IsEntityOf k.group (Device d) = subst (IsEntityOf k.group) c.in-Device.is c.requires.entity in
    record {
      renewed = λ h touches begun.
          let near : Touches h k (Near (Device d)) = subst (λ (e : Entity). Touches h k (Near e)) c.in-Device.is touches in
          let first = before_it h k c.args.at c.args.states.now (map view c.args.list.now) c.requires.entity touches begun in
          let second = c.in_ok-renew.ensures.renewed h (subst (λ (n : ℕ). IsRenewed h k n c.args.states.now (map view c.args.list.now)) (sym place) first) in
          c.renew_links.ensures.renewed h near (behind_device h k d (c.place.result + 1) c.renew.new.states (map view c.renew.new.list) next here near second);
    }

pub returns-in-Link : goal.returns-in-Link
returns-in-Link c =
    let k = c.args.behind.now in
    let l = c.in-Link.field-0 in
    let group : c.topo-topo.result.now ≡ k.group = c.topo-topo.ensures.topo ∙ (c.control.ensures.group ∙ ap (λ (m : History). m.group) c.world.ensures) in
    let place : c.place.result ≡ place_in k.group c.args.at = c.place.ensures.place ∙ ap (λ (g : Group). place_in g c.args.at) group in
    let next : c.place.result + 1 ≡ length k.group.devices + l + 1 = ap (λ (n : ℕ). n + 1) (place ∙ ap (place_in k.group) c.in-Link.is) in
    let here : IsEntityOf k.group (Link l) = subst (IsEntityOf k.group) c.in-Link.is c.requires.entity in
    record {
      renewed = λ h touches begun.
          let near : Touches h k (Near (Link l)) = subst (λ (e : Entity). Touches h k (Near e)) c.in-Link.is touches in
          let first = before_it h k c.args.at c.args.states.now (map view c.args.list.now) c.requires.entity touches begun in
          let second = c.in_ok-renew.ensures.renewed h (subst (λ (n : ℕ). IsRenewed h k n c.args.states.now (map view c.args.list.now)) (sym place) first) in
          behind_link h k l (c.place.result + 1) c.renew.new.states (map view c.renew.new.list) next here near second;
    }

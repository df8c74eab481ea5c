use Rattle.std.proofs.Common.{◌<◌, ◌∙◌, ap, subst, arith, get_or, length}
use Rattle.st_net.specs.declared.entity.Entity.{Entity}
use Rattle.st_net.specs.Groups.{Group, IsEntityOf, no_link}
use Rattle.st_net.proofs.WalkLaws.{is_link_at}
use Rattle.st_player.proofs.state.open_of.Goals as goal

pub is_up-requires-then-is_up : goal.is_up-requires-then-is_up
is_up-requires-then-is_up c =
    let g = c.args.world.now.history.group in
    let low : c.in-Link.i < length g.links = subst (λ (e : Entity). IsEntityOf g e) c.in-Link.is c.requires in
    let link = is_link_at (length g.devices) g.links c.in-Link.i c.is_legal.ensures.sound.links low in
    let end = c.ends-a.ensures.a ∙ ap (λ (h : Group). (get_or h.links c.in-Link.i no_link).a) (c.topo.ensures.topo ∙ c.control.ensures.group) in
    omega (arith, link.a_in, end)

pub is_up-is_open-requires : goal.is_up-is_open-requires
is_up-is_open-requires c =
    let g = c.args.world.now.history.group in
    let low : c.in-Link.i < length g.links = subst (λ (e : Entity). IsEntityOf g e) c.in-Link.is c.requires in
    let link = is_link_at (length g.devices) g.links c.in-Link.i c.is_legal.ensures.sound.links low in
    let end = c.ends-a.ensures.b ∙ ap (λ (h : Group). (get_or h.links c.in-Link.i no_link).b) (c.topo.ensures.topo ∙ c.control.ensures.group) in
    omega (arith, link.b_in, end)

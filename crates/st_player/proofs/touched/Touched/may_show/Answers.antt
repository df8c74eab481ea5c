use Rattle.std.proofs.Common.{◌<◌, subst, arith, length}
use Rattle.st_net.specs.declared.entity.Entity.{Entity}
use Rattle.st_net.specs.declared.entity.Entity.TheVariants.{Device}
use Rattle.st_net.specs.Groups.{IsEntityOf}
use Rattle.st_net.proofs.WalkLaws.{is_link_at}
use Rattle.st_player.proofs.ChangeLemmas.{has_mark}
use Rattle.st_player.proofs.touched.Touched.may_show.Goals as goal

pub may_move-requires-else-may_move : goal.may_move-requires-else-may_move
may_move-requires-else-may_move c =
    let g = c.args.topo.now in
    let low : c.in-Link.i < length g.links = subst (λ (e : Entity). IsEntityOf g e) c.in-Link.is c.requires.entity in
    let link = is_link_at (length g.devices) g.links c.in-Link.i c.is_sound.ensures.links low in
    has_mark g c.args.self.now (Device c.ends-a.result.0) c.requires.marks (omega (arith, link.a_in, c.ends-a.ensures.a))

pub may_move-requires-else-may_move-2 : goal.may_move-requires-else-may_move-2
may_move-requires-else-may_move-2 c =
    let g = c.args.topo.now in
    let low : c.in-Link.i < length g.links = subst (λ (e : Entity). IsEntityOf g e) c.in-Link.is c.requires.entity in
    let link = is_link_at (length g.devices) g.links c.in-Link.i c.is_sound.ensures.links low in
    has_mark g c.args.self.now (Device c.ends-a.result.1) c.requires.marks (omega (arith, link.b_in, c.ends-a.ensures.b))

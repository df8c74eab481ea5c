use Rattle.std.proofs.Common.{◌<◌, length, arith}
use Rattle.st_net.proofs.WalkLaws.{is_link_at}
use Rattle.st_promise.proofs.ChainLaws.{chains_more}
use Rattle.st_promise.proofs.incidence.Incidence.of.Goals as goal

pub index-requires : goal.index-requires
index-requires c =
    let low : c.loop-link.link < length c.args.topo.now.links = omega (arith, c.link_count-link-end.ensures) in
    let link = is_link_at _ _ c.loop-link.link c.is_sound.ensures.links low in
    omega (arith, link.a_in, c.ends-a.ensures.a, c.loop-link.invariant.devices, c.loop-link.last.ok.0)

pub index-requires-in-loop-link : goal.index-requires-in-loop-link
index-requires-in-loop-link c =
    let low : c.loop-link.link < length c.args.topo.now.links = omega (arith, c.link_count-link-end.ensures) in
    let link = is_link_at _ _ c.loop-link.link c.is_sound.ensures.links low in
    omega (arith, link.b_in, c.ends-a.ensures.b, c.loop-link.invariant.devices, c.loop-link.last.ok.0)

pub index_mut-requires : goal.index_mut-requires
index_mut-requires c =
    let low : c.loop-link.link < length c.args.topo.now.links = omega (arith, c.link_count-link-end.ensures) in
    let link = is_link_at _ _ c.loop-link.link c.is_sound.ensures.links low in
    omega (arith, link.a_in, c.ends-a.ensures.a, c.loop-link.invariant.devices, c.loop-link.last.ok.0)

pub index_mut-requires-in-loop-link : goal.index_mut-requires-in-loop-link
index_mut-requires-in-loop-link c =
    let low : c.loop-link.link < length c.args.topo.now.links = omega (arith, c.link_count-link-end.ensures) in
    let link = is_link_at _ _ c.loop-link.link c.is_sound.ensures.links low in
    omega (arith, link.b_in, c.ends-a.ensures.b, c.loop-link.invariant.devices, c.loop-link.last.ok.0)

pub loop-link-preserved : goal.loop-link-preserved
loop-link-preserved c =
    let low : c.loop-link.link < length c.args.topo.now.links = omega (arith, c.link_count-link-end.ensures) in
    let link = is_link_at _ _ c.loop-link.link c.is_sound.ensures.links low in
    chains_more (length c.args.topo.now.devices) c.args.topo.now.links c.loop-link.link c.ends-a.result.0 c.ends-a.result.1 c.loop-link.last.items c.loop-link.earlier.items c.push.new.self.items _ _ c.loop-link.invariant c.ends-a.ensures.a c.ends-a.ensures.b (omega (arith, link.a_in, c.ends-a.ensures.a)) (omega (arith, link.b_in, c.ends-a.ensures.b)) c.index.ensures c.index-in-loop-link.ensures c.in_ok-push.ensures.items

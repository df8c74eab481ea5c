use Rattle.std.proofs.Common.{◌<◌, length, arith}
use Rattle.st_promise.proofs.NetworkLaws.{made_none, made_with, made_all}
use Rattle.st_promise.proofs.up_network.UpNetwork.whole.Goals as goal

pub add_link-requires : goal.add_link-requires
add_link-requires c = record { link = omega (arith, c.link_count-link-end.ensures); nodes = c.loop-link.invariant.nodes; few = c.loop-link.invariant.count }

pub loop-link-init : goal.loop-link-init
loop-link-init c = made_none _ _ _ _ c.device_count.ensures c.in_ok-graph.ensures

pub loop-link-preserved : goal.loop-link-preserved
loop-link-preserved c =
    let low : c.loop-link.link < length c.args.topo.now.links = omega (arith, c.link_count-link-end.ensures) in
    made_with c.args.topo.now _ c.loop-link.link c.loop-link.graph _ c.loop-link.invariant low c.in_ok-add_link.ensures

pub returns : goal.returns
returns c = made_all c.args.topo.now _ c.loop-link.link c.loop-link.graph c.loop-link.invariant (omega (arith, c.link_count-link-end.ensures))

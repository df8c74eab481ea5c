use Rattle.std.proofs.Common.{◌≤◌, arith}
use Rattle.std.specs.Prelude.{slice_index_or}
use Rattle.st_net.specs.Groups.{no_link}
use Rattle.st_net.proofs.WalkLaws.{is_link_at}
use Rattle.st_promise.proofs.NetworkLaws.{edge_is}
use Rattle.st_promise.proofs.up_network.add_link.Goals as goal
use Rattle.st_promise.proofs.up_network.add_link.Goals.{then-up, else-up}

pub add-requires-clause-edge : goal.add-requires-clause-edge
add-requires-clause-edge c =
    let low : c.if-up.capacity ≤ (slice_index_or c.args.topo.now.links c.args.link no_link).capacity = elim c.if-up.branch [
      | then-up w ↦ omega (arith, w.capacity-is, w.capacity-capacity.ensures)
      | else-up w ↦ omega (arith, w.capacity-is)
    ] in
    edge_is _ _ _ _ _ _ c.requires.nodes c.ends-a.ensures.a c.ends-a.ensures.b low (is_link_at _ _ c.args.link c.is_sound.ensures.links c.requires.link)

use Rattle.std.proofs.Common.{◌≡◌, length, get_or, arith}
use Rattle.st_net.specs.InOrder.{entities_of}
use Rattle.st_net.proofs.EntityOrder.{entities_count, stands_among, own_at}
use Rattle.st_net.proofs.topo.GroupTopo.entity_at.Goals as goal

stands : (c : goal.After-at_place) → c.at_place.result ≡ get_or (entities_of c.args.self.now) c.args.place c.at_place.result
stands c =
    let g = c.args.self.now in
    let all = entities_count g in
    stands_among c.device_count.result (length g.devices) (length g.links) c.args.place c.at_place.result c.device_count.ensures (omega (arith, all, c.requires)) c.at_place.ensures

pub returns-clause-of : goal.returns-clause-of
returns-clause-of c = own_at c.args.self.now c.args.place c.at_place.result c.requires (stands c)

pub returns-clause-at : goal.returns-clause-at
returns-clause-at c = stands c

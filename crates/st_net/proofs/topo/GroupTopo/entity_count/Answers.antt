use Rattle.std.proofs.Common.{arith}
use Rattle.st_net.proofs.EntityOrder.{entities_count}
use Rattle.st_net.proofs.topo.GroupTopo.entity_count.Goals as goal

pub returns : goal.returns
returns c = let all = entities_count c.args.self.now in omega (arith, all, c.device_count.ensures, c.link_count.ensures)

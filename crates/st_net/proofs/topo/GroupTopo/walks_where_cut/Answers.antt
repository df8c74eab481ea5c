use Rattle.st_net.proofs.GroupLaws.{walks_where_cut}
use Rattle.st_net.proofs.topo.GroupTopo.walks_where_cut.Goals as goal

pub returns : goal.returns
returns c = walks_where_cut c.args.self.now c.is_sound.ensures

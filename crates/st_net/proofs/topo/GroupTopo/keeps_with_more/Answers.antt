use Rattle.st_net.proofs.GroupLaws.{keeps_with_more}
use Rattle.st_net.proofs.topo.GroupTopo.keeps_with_more.Goals as goal

pub returns : goal.returns
returns c = keeps_with_more c.args.self.now

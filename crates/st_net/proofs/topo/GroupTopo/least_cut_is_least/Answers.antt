use Rattle.st_net.proofs.GroupLaws.{has_least_cuts}
use Rattle.st_net.proofs.topo.GroupTopo.least_cut_is_least.Goals as goal

pub returns : goal.returns
returns c = has_least_cuts c.args.self.now c.is_sound.ensures

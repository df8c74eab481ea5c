use Rattle.st_net.proofs.GroupLaws.{tells_kept}
use Rattle.st_net.proofs.topo.GroupTopo.held_means_kept.Goals as goal

pub returns : goal.returns
returns c = tells_kept c.args.self.now c.is_sound.ensures

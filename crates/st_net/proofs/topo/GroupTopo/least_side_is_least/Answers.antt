use Rattle.st_net.proofs.GroupLaws.{tells_least_side, has_one_least_side}
use Rattle.st_net.proofs.topo.GroupTopo.least_side_is_least.Goals as goal

pub returns : goal.returns
returns c = record { tells = tells_least_side c.args.self.now c.is_sound.ensures; one = has_one_least_side c.args.self.now c.is_sound.ensures }

use Rattle.st_net.proofs.DemandLaws.{holds_with_more, tells_demands, lists_demands, breaks_none}
use Rattle.st_net.proofs.topo.GroupTopo.demands_are_judged.Goals as goal

pub returns : goal.returns
returns c = record { more = holds_with_more c.args.self.now; tells = tells_demands c.args.self.now c.is_sound.ensures; lists = lists_demands c.args.self.now; none_breaks = breaks_none c.args.self.now }

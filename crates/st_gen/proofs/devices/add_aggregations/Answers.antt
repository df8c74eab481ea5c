use Rattle.st_gen.specs.FatTrees.{aggregation}
use Rattle.st_gen.proofs.Growing.{mapped}
use Rattle.st_gen.proofs.devices.add_aggregations.Goals as goal

pub loop-j-preserved : goal.loop-j-preserved
loop-j-preserved c = mapped (aggregation c.args.pod) c.args.parts.now.items c.loop-j.parts.items c.push.new.self.items c.in_ok-part.part c.loop-j.j c.loop-j.invariant c.in_ok-push.ensures.items c.in_ok-part.ensures

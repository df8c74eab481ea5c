use Rattle.st_gen.specs.FatTrees.{core}
use Rattle.st_gen.proofs.Growing.{mapped}
use Rattle.st_gen.proofs.devices.add_cores.Goals as goal

pub loop-n-preserved : goal.loop-n-preserved
loop-n-preserved c = mapped core c.args.parts.now.items c.loop-n.parts.items c.push.new.self.items c.in_ok-part.part c.loop-n.n c.loop-n.invariant c.in_ok-push.ensures.items c.in_ok-part.ensures

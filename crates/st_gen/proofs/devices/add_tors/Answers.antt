use Rattle.st_gen.specs.FatTrees.{tor}
use Rattle.st_gen.proofs.Growing.{mapped}
use Rattle.st_gen.proofs.devices.add_tors.Goals as goal

pub loop-i-preserved : goal.loop-i-preserved
loop-i-preserved c = mapped (tor c.args.pod) c.args.parts.now.items c.loop-i.parts.items c.push.new.self.items c.in_ok-part.part c.loop-i.i c.loop-i.invariant c.in_ok-push.ensures.items c.in_ok-part.ensures

use Rattle.st_gen.specs.FatTrees.{core_link}
use Rattle.st_gen.proofs.Growing.{mapped}
use Rattle.st_gen.proofs.links.add_core_links.Goals as goal

pub loop-m-preserved : goal.loop-m-preserved
loop-m-preserved c = mapped (core_link c.args.half c.args.pod c.args.aggregation) c.args.parts.now.items c.loop-m.parts.items c.push.new.self.items c.in_ok-part.part c.loop-m.m c.loop-m.invariant c.in_ok-push.ensures.items c.in_ok-part.ensures

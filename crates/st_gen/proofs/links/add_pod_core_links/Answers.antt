use Rattle.st_gen.specs.FatTrees.{core_links}
use Rattle.st_gen.proofs.Growing.{joined}
use Rattle.st_gen.proofs.links.add_pod_core_links.Goals as goal

pub loop-aggregation-preserved : goal.loop-aggregation-preserved
loop-aggregation-preserved c = joined (core_links c.args.half c.args.pod) c.args.parts.now.items c.loop-aggregation.parts.items c.add_core_links.new.parts.items c.loop-aggregation.aggregation c.loop-aggregation.invariant c.in_ok-add_core_links.ensures

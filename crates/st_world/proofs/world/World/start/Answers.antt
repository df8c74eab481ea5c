use Rattle.st_world.proofs.WorldLaws.{agrees_start}
use Rattle.st_world.proofs.world.World.start.Goals as goal

pub invariant_of-result : goal.invariant_of-result
invariant_of-result c = agrees_start c.args.topo c.in_ok-machine.machine c.new.result.items c.in_ok-machine.ensures c.new.ensures.items

use Rattle.std.proofs.Common.{arith}
use Rattle.st_world.proofs.PlantLaws.{opening_plant, opening_agents}
use Rattle.st_world.proofs.plant.Plant.start.Goals as goal

pub returns-clause-plant : goal.returns-clause-plant
returns-clause-plant c = opening_plant c.args.topo.now c.loop-place.place c.loop-place.agents.items (omega arith) c.loop-place.invariant

pub returns-clause-opening : goal.returns-clause-opening
returns-clause-opening c = opening_agents c.args.topo.now c.loop-place.place c.loop-place.agents.items (omega arith) c.loop-place.invariant

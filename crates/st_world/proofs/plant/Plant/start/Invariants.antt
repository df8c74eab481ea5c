use Rattle.std.proofs.Common.{◌≡◌, map, take}
use Rattle.st_net.specs.InOrder.{entities_of}
use Rattle.st_world.specs.Plant.{opening_state}
use Rattle.st_world.proofs.plant.Plant.start.Given as goal

-- each agent so far is that of the opening
abbrev pub invariant-loop-place : goal.invariant-loop-place
invariant-loop-place l = l.agents.items ≡ map (opening_state l.topo) (take l.place (entities_of l.topo))

use Rattle.std.proofs.Common.{ap, ◌∙◌}
use Rattle.st_control.specs.Control.{ControlView}
use Rattle.st_world.proofs.WorldLaws.{agent_is}
use Rattle.st_world.proofs.world.World.agent.Goals as goal

pub returns : goal.returns
returns c = rw (← c.self.view_is) (agent_is c.self.inside.machine c.self.inside.journal.items c.args.e c.topo.result.now c.plant.result.now c.agent.result.now c.self.invariant (c.topo.ensures.topo ∙ ap (λ (k : ControlView). k.group) c.control.ensures) c.plant.ensures.agents c.agent.ensures)

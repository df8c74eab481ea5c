use Rattle.st_net.specs.Agents.{agent_failed}
use Rattle.st_world.proofs.PlantLaws.{changed}
use Rattle.st_world.proofs.plant.Plant.fail.Goals as goal

pub returns-clause-agents : goal.returns-clause-agents
returns-clause-agents c = (changed _ _ _ _ _ _ _ (agent_failed c.args.vals c.args.health) c.self.view_is c.requires.plant c.requires.entity c.place.ensures.place c.index_mut.ensures.value c.fail.ensures).agents

pub returns-clause-plant : goal.returns-clause-plant
returns-clause-plant c = (changed _ _ _ _ _ _ _ (agent_failed c.args.vals c.args.health) c.self.view_is c.requires.plant c.requires.entity c.place.ensures.place c.index_mut.ensures.value c.fail.ensures).plant

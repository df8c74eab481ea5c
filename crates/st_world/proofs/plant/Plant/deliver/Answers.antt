use Rattle.std.proofs.Common.{Some}
use Rattle.st_net.specs.Agents.{agent_told}
use Rattle.st_world.proofs.PlantLaws.{changed, agent_at-own}
use Rattle.st_world.proofs.plant.Plant.deliver.Goals as goal

pub deliver-requires : goal.deliver-requires
deliver-requires c = agent_at-own _ _ _ _ _ _ c.self.view_is c.requires.plant c.requires.entity c.place.ensures.place c.index_mut.ensures.value

pub returns-clause-agents : goal.returns-clause-agents
returns-clause-agents c = (changed _ _ _ _ _ _ _ (agent_told (Some c.args.command)) c.self.view_is c.requires.plant c.requires.entity c.place.ensures.place c.index_mut.ensures.value c.deliver.ensures.agent).agents

pub returns-clause-plant : goal.returns-clause-plant
returns-clause-plant c = (changed _ _ _ _ _ _ _ (agent_told (Some c.args.command)) c.self.view_is c.requires.plant c.requires.entity c.place.ensures.place c.index_mut.ensures.value c.deliver.ensures.agent).plant

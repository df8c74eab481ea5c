-- The agents of a group's entities as contracts see them.
use Rattle.std.specs.Prelude.{◌≡◌, List, length, if◌then◌else◌}
use Rattle.st_net.specs.declared.entity.Entity.{Entity}
use Rattle.st_net.specs.Entities.{is_same_entity}
use Rattle.st_net.specs.Groups.{Group, opening_of, health_of}
use Rattle.st_net.specs.Agents.{Agent, agent_opening}
use Rattle.st_net.specs.InOrder.{entity_count, item_in}
use Rattle.st_agent.specs.State.{AgentState}

-- an agent that was told nothing
abbrev pub opening_agent : Group → Entity → Agent
opening_agent g e = agent_opening (opening_of g e) (health_of g e)

abbrev pub opening_state : Group → Entity → AgentState
opening_state g e = record { entity = e; agent = opening_agent g e }

abbrev pub state_in : Group → List AgentState → Entity → AgentState
state_in g agents = item_in g agents (opening_state g)

-- the agent of an entity; of an entity that the group does not have, an agent that was told nothing
abbrev pub agent_in : Group → List AgentState → Entity → Agent
agent_in g agents = λ e. (state_in g agents e).agent

-- an agent for each entity, each in its place
pub record IsPlantOf (g : Group) (agents : List AgentState) : Type 0 where
  pub count : length agents ≡ entity_count g
  pub own : (e : Entity) → (state_in g agents e).entity ≡ e

-- the agents with that of one entity changed
abbrev pub agent_set : (Entity → Agent) → Entity → (Agent → Agent) → Entity → Agent
agent_set agents at change = λ e. if is_same_entity at e then change (agents e) else agents e

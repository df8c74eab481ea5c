-- The agents of a group: those of its opening, and those after one of them was changed.
use Rattle.std.proofs.Common.{◌≡◌, ℕ, List, length, get_or, map, set, take, refl, sym, ap, ◌∙◌, length-set}
use Rattle.std.specs.Prelude.{Bool, true, false, if◌then◌else◌}
use mathlib.Core.Path.{fun_ext}
use Rattle.st_net.specs.declared.entity.Entity.{Entity}
use Rattle.st_net.specs.Entities.{is_same_entity}
use Rattle.st_net.specs.Groups.{Group, IsEntityOf}
use Rattle.st_net.specs.Agents.{Agent}
use Rattle.st_net.specs.InOrder.{entities_of, place_in}
use Rattle.st_net.proofs.Tests.{same_entity}
use Rattle.st_net.proofs.InOrder.{item_in_at, item_in-set, all_default}
use Rattle.st_agent.specs.State.{AgentState}
use Rattle.st_world.specs.Plant.{IsPlantOf, opening_agent, opening_state, state_in, agent_in, agent_set}

-- the agents of a group's opening, made place by place, are one for each entity, in its place
pub opening_plant : (g : Group) (n : ℕ) (agents : List AgentState) → n ≡ length (entities_of g) → agents ≡ map (opening_state g) (take n (entities_of g)) → IsPlantOf g agents
opening_plant g n agents all made =
    let are = all_default g (opening_state g) n agents all made in
    record { count = are.count; own = λ e. ap (λ (s : AgentState). s.entity) (are.each e) }

-- at the opening no agent was told anything
pub opening_agents : (g : Group) (n : ℕ) (agents : List AgentState) → n ≡ length (entities_of g) → agents ≡ map (opening_state g) (take n (entities_of g)) → agent_in g agents ≡ opening_agent g
opening_agents g n agents all made = fun_ext (λ e. ap (λ (s : AgentState). s.agent) ((all_default g (opening_state g) n agents all made).each e))

-- what stands in the place of an entity of the group is its agent
pub agent_at : (g : Group) (old items : List AgentState) (place : ℕ) (at : Entity) (s : AgentState) → items ≡ old → IsPlantOf g old → IsEntityOf g at → place ≡ place_in g at → s ≡ get_or items place s → s ≡ record { entity = at; agent = agent_in g old at }
agent_at g old items place at s same of here is_at is =
    let in_place : s ≡ get_or old (place_in g at) s = rw (← is_at, ← same) is in
    in_place
    ∙ sym (item_in_at g old (opening_state g) at s here of.count)
    ∙ ap (λ (x : Entity). record { entity = x; agent = agent_in g old at }) (of.own at)

-- what stands in the place of an entity of the group is that entity's
pub agent_at-own : (g : Group) (old items : List AgentState) (place : ℕ) (at : Entity) (s : AgentState) → items ≡ old → IsPlantOf g old → IsEntityOf g at → place ≡ place_in g at → s ≡ get_or items place s → at ≡ s.entity
agent_at-own g old items place at s same of here is_at is = sym (ap (λ (x : AgentState). x.entity) (agent_at g old items place at s same of here is_at is))

-- the state of one entity's agent replaced by another of that entity
agent_put : (g : Group) (agents : List AgentState) (at e : Entity) (change : Agent → Agent) (s : AgentState) → IsPlantOf g agents → IsEntityOf g at → s ≡ record { entity = at; agent = change (agent_in g agents at) } → state_in g (set agents (place_in g at) s) e ≡ record { entity = e; agent = agent_set (agent_in g agents) at change e }
agent_put g agents at e change s of here is = item_in-set g agents (opening_state g) at e s here of.count ∙ by_entity (is_same_entity at e) refl
  where
    by_entity : (same : Bool) → is_same_entity at e ≡ same → (if same then s else state_in g agents e) ≡ record { entity = e; agent = (if same then change (agent_in g agents e) else agent_in g agents e) }
    by_entity false other = ap (λ (x : Entity). record { entity = x; agent = agent_in g agents e }) (of.own e)
    by_entity true same = is ∙ ap (λ (x : Entity). record { entity = x; agent = change (agent_in g agents x) }) (same_entity at e same)

-- the agents with that of one entity changed: each other agent is as it was, and each agent stands in its place
pub record IsChanged (g : Group) (old new : List AgentState) (at : Entity) (change : Agent → Agent) : Type 0 where
  pub agents : agent_in g new ≡ agent_set (agent_in g old) at change
  pub plant : IsPlantOf g new

-- the agent in an entity's place changes, and with it the agents of the group
pub changed : (g : Group) (old items : List AgentState) (place : ℕ) (at : Entity) (s next : AgentState) (change : Agent → Agent) → items ≡ old → IsPlantOf g old → IsEntityOf g at → place ≡ place_in g at → s ≡ get_or items place s → next ≡ record s { agent = change s.agent } → IsChanged g old (set items place next) at change
changed g old items place at s next change same of here is_at is after =
    rw (same, is_at) (record {
      agents = fun_ext (λ e. ap (λ (x : AgentState). x.agent) (put e));
      plant = record {
        count = length-set old (place_in g at) next ∙ of.count;
        own = λ e. ap (λ (x : AgentState). x.entity) (put e);
      };
    })
  where
    put : (e : Entity) → state_in g (set old (place_in g at) next) e ≡ record { entity = e; agent = agent_set (agent_in g old) at change e }
    put e = agent_put g old at e change next of here (after ∙ ap (λ (x : AgentState). record x { agent = change x.agent }) (agent_at g old items place at s same of here is_at is))

-- An agent as contracts see it, and its answers.
use Rattle.std.specs.Prelude.{nat_lt, if◌then◌else◌}
use Rattle.st_net.specs.declared.entity.Entity.{Entity}
use Rattle.st_net.specs.declared.message.Command.{Command}
use Rattle.st_net.specs.Agents.{Agent, is_at_work}
use Rattle.st_agent.specs.declared.agent.Delivery.{Delivery}
use Rattle.st_agent.specs.declared.agent.Delivery.TheVariants.{Begun, Stale}
use Rattle.st_agent.specs.declared.agent.Finish.{Finish}
use Rattle.st_agent.specs.declared.agent.Finish.TheVariants.{Done, NotBusy}

-- the entity whose agent it is, and how that one is
pub record AgentState : Type 0 where
  pub entity : Entity
  pub agent : Agent

-- a command is begun exactly where its stamp is above the fence
abbrev pub delivery_of : Agent → Command → Delivery
delivery_of a c = if nat_lt a.fence c.stamp then Begun else Stale a.fence

-- a finish does something exactly where a command is in work
abbrev pub finish_of : Agent → Finish
finish_of a = if is_at_work a.work then Done else NotBusy

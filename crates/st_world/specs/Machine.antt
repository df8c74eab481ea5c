-- A group's checker with its agents and its messages, and what one event does to them.
use Rattle.std.specs.Prelude.{◌≡◌, ℕ, ◌<◌, Bool, true, false, List, [], length, All}
use Rattle.st_net.specs.declared.entity.Entity.{Entity}
use Rattle.st_net.specs.declared.message.Command.{Command}
use Rattle.st_net.specs.declared.message.Report.{Report}
use Rattle.st_net.specs.Groups.{Group, IsEntityOf}
use Rattle.st_event.specs.declared.event.Event.{Event}
use Rattle.st_event.specs.declared.event.Event.TheVariants.{Submit, Check, Lock, Unlock, Send, Deliver, Finish, Report as make_report, Hear, Fail, Withdraw}
use Rattle.st_event.specs.declared.reply.Reply.{Reply}
use Rattle.st_event.specs.Standing.{Wires, standing_of, wires_of, standing_after, wires_after, reply_in}
use Rattle.st_event.specs.Versions.{value_at, versions_after}
use Rattle.st_agent.specs.State.{AgentState}
use Rattle.st_wire.specs.Messages.{Messages, HasSameMessages}
use Rattle.st_control.specs.Control.{ControlView, IsSameButRuns, standing_in, versions_in}
use Rattle.st_world.specs.Plant.{IsPlantOf, agent_in}

-- the checker; an agent for each entity, in the order of entities; and the messages
pub record MachineView : Type 0 where
  pub checker : ControlView
  pub agents : List AgentState
  pub messages : Messages

-- the network's part of how the group stands, by what the machine keeps
abbrev pub wires_in : MachineView → Wires
wires_in m = record { commands = m.messages.commands; reports = m.messages.reports; agent = agent_in m.checker.group m.agents }

-- an agent for each entity, and messages of the group's entities
pub record IsMachine (m : MachineView) : Type 0 where
  pub plant : IsPlantOf m.checker.group m.agents
  pub commands : All (λ (c : Command). IsEntityOf m.checker.group c.entity) m.messages.commands
  pub reports : All (λ (r : Report). IsEntityOf m.checker.group r.entity) m.messages.reports

-- fewer of everything that is counted than this number
pub record IsBelow (n : ℕ) (m : MachineView) : Type 0 where
  pub tickets : m.checker.store.tickets < n
  pub versions : m.checker.store.version < n
  pub commands : length m.messages.commands < n
  pub reports : length m.messages.reports < n
  pub numbers : (e : Entity) → (agent_in m.checker.group m.agents e).number < n

-- an event that is entered without taking memory, where there is room
abbrev pub is_without_memory : Event → Bool
is_without_memory (Submit app rows) = false
is_without_memory Check = false
is_without_memory (Lock app entity prio) = true
is_without_memory (Unlock app entity prio) = true
is_without_memory (Send entity) = true
is_without_memory (Deliver n) = true
is_without_memory (Finish entity) = true
is_without_memory (make_report entity) = true
is_without_memory (Hear n) = true
is_without_memory (Fail entity vals health) = true
is_without_memory (Withdraw entity) = false

-- the machine of a group at its opening
pub record IsOpening (g : Group) (m : MachineView) : Type 0 where
  pub group : m.checker.group ≡ g
  pub standing : standing_in m.checker ≡ standing_of g []
  pub wires : wires_in m ≡ wires_of g []
  pub versions : versions_in m.checker ≡ value_at g []

-- the event gets the reply that is called for, as entry n, and this entry moves the checker and the network
pub record Answers (old new : MachineView) (n : ℕ) (event : Event) (reply : Reply) : Type 0 where
  pub answer : reply ≡ reply_in old.checker.group (standing_in old.checker) (wires_in old) n event
  pub standing : standing_in new.checker ≡ standing_after old.checker.group (standing_in old.checker) (wires_in old) n event reply
  pub wires : wires_in new ≡ wires_after old.checker.group (standing_in old.checker) (wires_in old) event reply
  pub group : new.checker.group ≡ old.checker.group
  pub versions : versions_in new.checker ≡ versions_after (standing_in old.checker) event reply (versions_in old.checker)

-- nothing has changed, but for the room that there is for messages and the checker's count of runs
pub record HasSameMachine (old new : MachineView) : Type 0 where
  pub checker : IsSameButRuns old.checker new.checker
  pub agents : new.agents ≡ old.agents
  pub messages : HasSameMessages old.messages new.messages

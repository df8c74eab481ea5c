-- An agent as one value, and its step.
use Rattle.std.specs.Prelude.{ℕ, Bool, List, Option, Some, None, if◌then◌else◌}
use Rattle.st_net.specs.declared.entity.Entity.{Entity}
use Rattle.st_net.specs.declared.entity.Vals.{Vals}
use Rattle.st_net.specs.declared.message.Command.{Command}
use Rattle.st_event.specs.declared.event.Event.{Event}
use Rattle.st_event.specs.declared.event.Event.TheVariants.{Submit, Check, Lock, Unlock, Send, Deliver, Finish, Report as make_report, Hear, Fail, Withdraw}
use Rattle.st_event.specs.declared.journal.Entry.{Entry}
use Rattle.st_net.specs.Entities.{is_same_entity}
use Rattle.st_net.specs.Groups.{Group}
use Rattle.st_net.specs.Agents.{Agent, agent_told, agent_finished, agent_failed, agent_counted}
use Rattle.st_event.specs.Moments.{command_of, fence, busy, work, vals, health, number}

abbrev pub agent_from : Vals → ℕ → ℕ → Bool → Vals → ℕ → Agent
agent_from vals health fence busy work number = record { vals = vals; health = health; fence = fence; work = if busy then Some work else None; number = number }

-- the agent of an entity
abbrev pub agent_of : Group → List Entry → Entity → Agent
agent_of g past e = agent_from (vals g past e) (health g past e) (fence g past e) (busy g past e) (work g past e) (number past e)

abbrev pub agent_after : Event → (ℕ → Option Command) → Entity → Agent → Agent
agent_after (Deliver n) commands e a = agent_told (command_of e (commands n)) a
agent_after (Finish at) commands e a = if is_same_entity at e then agent_finished a.work a else a
agent_after (make_report at) commands e a = if is_same_entity at e then agent_counted a else a
agent_after (Fail at vals health) commands e a = if is_same_entity at e then agent_failed vals health a else a
agent_after (Submit app rows) commands e a = a
agent_after Check commands e a = a
agent_after (Lock app at prio) commands e a = a
agent_after (Unlock app at prio) commands e a = a
agent_after (Send at) commands e a = a
agent_after (Hear n) commands e a = a
agent_after (Withdraw at) commands e a = a

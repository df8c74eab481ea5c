-- The agent of an entity: its state, what a command, a finish and a failure make of it, and what it reports.
use Rattle.std.specs.Prelude.{ℕ, ◌+◌, nat_lt, Bool, true, false, not, ◌&&◌, Option, Some, None, if◌then◌else◌}
use Rattle.st_net.specs.declared.entity.Entity.{Entity}
use Rattle.st_net.specs.declared.entity.Vals.{Vals}
use Rattle.st_net.specs.declared.message.Command.{Command}
use Rattle.st_net.specs.declared.message.Report.{Report}
use Rattle.st_net.specs.Levels.{level_of, carries}

-- its values and its health; the greatest stamp of a command that it began; the values of the command in work; and the number of its last
-- report
pub record Agent : Type 0 where
  pub vals : Vals
  pub health : ℕ
  pub fence : ℕ
  pub work : Option Vals
  pub number : ℕ

-- an agent that was told nothing
abbrev pub agent_opening : Vals → ℕ → Agent
agent_opening vals health = record { vals = vals; health = health; fence = 0; work = None; number = 0 }

-- a command with a later stamp is begun
abbrev pub agent_told : Option Command → Agent → Agent
agent_told None a = a
agent_told (Some c) a = if nat_lt a.fence c.stamp then record a { fence = c.stamp; work = Some c.vals } else a

abbrev pub agent_finished : Option Vals → Agent → Agent
agent_finished None a = a
agent_finished (Some vals) a = record a { vals = vals; work = None }

abbrev pub agent_failed : Vals → ℕ → Agent → Agent
agent_failed vals health a = record a { vals = vals; health = health }

abbrev pub agent_counted : Agent → Agent
agent_counted a = record a { number = a.number + 1 }

abbrev pub is_at_work : Option Vals → Bool
is_at_work None = false
is_at_work (Some vals) = true

-- what an agent reports in this state
abbrev pub report_by : Entity → ℕ → ℕ → Bool → Vals → ℕ → Report
report_by e number fence busy vals health = record { entity = e; number = number; fence = fence; busy = busy; vals = vals; level = level_of e vals health busy }

-- the next report of an entity's agent
abbrev pub agent_report : Entity → Agent → Report
agent_report e a = report_by e (a.number + 1) a.fence (is_at_work a.work) a.vals a.health

abbrev pub agent_level : Entity → Agent → ℕ
agent_level e a = level_of e a.vals a.health (is_at_work a.work)

-- nothing is in work, and the entity carries traffic
abbrev pub is_agent_up : Entity → Agent → Bool
is_agent_up e a = not (is_at_work a.work) && carries e a.vals (agent_level e a)

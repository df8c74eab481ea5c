-- What is known of an entity by a report of it.
use Rattle.std.specs.Prelude.{ℕ, Bool, false, ◌&&◌, ◌==◌, not, nat_lt, Option, Some, None, if◌then◌else◌}
use Rattle.st_net.specs.declared.entity.Entity.{Entity}
use Rattle.st_net.specs.declared.entity.Vals.{Vals}
use Rattle.st_net.specs.declared.message.Report.{Report}
use Rattle.st_net.specs.Entities.{is_same_entity, is_same_vals}
use Rattle.st_net.specs.Levels.{carries}
use Rattle.st_net.specs.Groups.{Group, opening_of, health_of}
use Rattle.st_net.specs.Agents.{report_by}

-- the report that stands for an entity before any
abbrev pub opening_report : Group → Entity → Report
opening_report g e = report_by e 0 0 false (opening_of g e) (health_of g e)

-- the report with the greater number, of the kept one and one that is heard
abbrev pub later_report : Entity → Option Report → Report → Report
later_report e None kept = kept
later_report e (Some r) kept = if is_same_entity r.entity e && nat_lt kept.number r.number then r else kept

-- a report that is not busy shows that the command of this stamp was carried out, and this target
abbrev pub is_settled_by : Report → ℕ → Vals → Bool
is_settled_by r stamp target = not r.busy && r.fence == stamp && is_same_vals r.vals target

abbrev pub is_sure_by : Entity → Report → ℕ → Vals → Bool
is_sure_by e r stamp target = is_settled_by r stamp target && carries e r.vals r.level

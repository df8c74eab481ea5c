-- The verdict on a proposal.
use Rattle.std.specs.Prelude.{ℕ, ◌+◌, ◌==◌, ◌&&◌, nat_lt, nat_le, Bool, not, List, [], ◌∷◌, Option, Some, None, option_map, if◌then◌else◌, slice_index_or}
use Rattle.st_net.specs.declared.entity.AppId.{AppId}
use Rattle.st_net.specs.declared.entity.Row.{Row}
use Rattle.st_net.specs.declared.entity.Var.{Var}
use Rattle.st_net.specs.declared.entity.Var.TheVariants.{Power, Firmware, Config, Routing, LinkPower, Iface}
use Rattle.st_net.specs.declared.entity.Entity.{Entity}
use Rattle.st_net.specs.declared.entity.Entity.TheVariants.{Device, Link}
use Rattle.st_net.specs.declared.entity.Prio.{Prio}
use Rattle.st_net.specs.declared.message.Report.{Report}
use Rattle.st_event.specs.declared.reply.Lack.{Lack}
use Rattle.st_event.specs.declared.reply.Lack.TheVariants.{Level, PowerOff}
use Rattle.st_event.specs.declared.reply.Cause.{Cause}
use Rattle.st_event.specs.declared.reply.Cause.TheVariants.{NotControllable, Locked, Broken as broken_cause}
use Rattle.st_event.specs.declared.reply.Verdict.{Verdict}
use Rattle.st_event.specs.declared.reply.Verdict.TheVariants.{Accepted, Refused}
use Rattle.st_net.specs.declared.topo.LinkOpening.{LinkOpening}
use Rattle.st_net.specs.Groups.{Group, no_link}
use Rattle.st_net.specs.Merge.{target_with}
use Rattle.st_net.specs.Holders.{Holding, effective_of}
use Rattle.st_net.specs.Demands.{first_broken_of}

-- the level that a row on the variable needs of its own entity
abbrev pub needs_of : Var → ℕ
needs_of Power = 1
needs_of Firmware = 2
needs_of Config = 3
needs_of Routing = 4
needs_of LinkPower = 0
needs_of Iface = 1

-- the first lack, or else the second
abbrev pub lack_or : Option Lack → Option Lack → Option Lack
lack_or (Some lack) next = Some lack
lack_or None next = next

abbrev pub level_lack : (Entity → Report) → Entity → ℕ → Option Lack
level_lack observed e needs = if nat_lt (observed e).level needs then Some (Level e (observed e).level needs) else None

abbrev pub power_lack : ℕ → ℕ → Option Lack
power_lack needs power = if nat_le 2 needs && not (power == 1) then Some PowerOff else None

abbrev pub link_lack : (Entity → Report) → ℕ → LinkOpening → Var → Option Lack
link_lack observed i link v = lack_or (level_lack observed (Device link.a) 4) (lack_or (level_lack observed (Device link.b) 4) (level_lack observed (Link i) (needs_of v)))

-- why a variable can't be set, by what was observed and by the target after the proposal
abbrev pub lack_at : Group → (Entity → Report) → (Entity → Var → ℕ) → Entity → Var → Option Lack
lack_at g observed after (Device i) v = lack_or (level_lack observed (Device i) (needs_of v)) (power_lack (needs_of v) (after (Device i) Power))
lack_at g observed after (Link i) v = link_lack observed i (slice_index_or g.links i no_link) v

-- a cause, where there is a lack, or else the next
abbrev pub lack_cause : Row → Option Lack → Option Cause → Option Cause
lack_cause row (Some lack) next = Some (NotControllable row lack)
lack_cause row None next = next

-- the first row that has a lack
abbrev pub first_lack : Group → (Entity → Report) → (Entity → Var → ℕ) → List Row → Option Cause
first_lack g observed after [] = None
first_lack g observed after (row ∷ rows) = lack_cause row (lack_at g observed after row.entity row.var) (first_lack g observed after rows)

-- a cause, where another application holds the entity, or else the next
abbrev pub locked_cause : AppId → Entity → Option Holding → Option Cause → Option Cause
locked_cause app e None next = next
locked_cause app e (Some holding) next = if holding.app.0 == app.0 then next else Some (Locked e holding.app holding.prio)

-- the first row whose entity another application holds
abbrev pub first_locked : (Entity → Prio → Option AppId) → AppId → List Row → Option Cause
first_locked holder app [] = None
first_locked holder app (row ∷ rows) = locked_cause app row.entity (effective_of holder row.entity) (first_locked holder app rows)

abbrev pub cause_or : Option Cause → Option Cause → Option Cause
cause_or (Some cause) next = Some cause
cause_or None next = next

abbrev pub refusal_or_version : Option Cause → ℕ → Verdict
refusal_or_version (Some cause) version = Refused cause
refusal_or_version None version = Accepted (version + 1)

-- why an application's rows are refused: the first lack, or else the first lock, or else the first demand that breaks
abbrev pub refusal : Group → (Entity → Report) → (Entity → Var → ℕ) → (Entity → Prio → Option AppId) → (Entity → Bool) → (Entity → Bool) → AppId → List Row → Option Cause
refusal g observed target holder sure after app rows = cause_or (first_lack g observed (target_with target rows) rows) (cause_or (first_locked holder app rows) (option_map broken_cause (first_broken_of g sure after)))

-- the verdict on an application's rows: their refusal, or else Accepted with the next version
abbrev pub judge : Group → (Entity → Report) → (Entity → Var → ℕ) → (Entity → Prio → Option AppId) → (Entity → Bool) → (Entity → Bool) → ℕ → AppId → List Row → Verdict
judge g observed target holder sure after version app rows = refusal_or_version (refusal g observed target holder sure after app rows) version

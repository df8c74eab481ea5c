-- Why a proposal that asks devices for a firmware would be refused, by how a group stands.
use Rattle.std.specs.Prelude.{ℕ, Bool, List, Option}
use Rattle.st_net.specs.declared.entity.AppId.{AppId}
use Rattle.st_net.specs.declared.entity.Entity.{Entity}
use Rattle.st_net.specs.declared.entity.Row.{Row}
use Rattle.st_net.specs.Groups.{Group}
use Rattle.st_net.specs.Merge.{without_altered}
use Rattle.st_event.specs.declared.reply.Cause.{Cause}
use Rattle.st_event.specs.Judge.{refusal}
use Rattle.st_event.specs.Standing.{Standing, sure_in}
use Rattle.st_roll.specs.Firmware.{firmware_rows}

-- the sure entities that are left while the rows are carried out
abbrev pub left_up : Group → Standing → List Row → Entity → Bool
left_up g st rows = without_altered g (sure_in g st) st.target rows

-- the cause for which an application's proposal of these rows would be refused; none where it would be accepted
abbrev pub refusal_in : Group → Standing → AppId → List Row → Option Cause
refusal_in g st app rows = refusal g st.observed st.target st.holder (sure_in g st) (left_up g st rows) app rows

-- why these devices would be refused a firmware
abbrev pub device_refusal : Group → Standing → AppId → ℕ → List ℕ → Option Cause
device_refusal g st app firmware devices = refusal_in g st app (firmware_rows firmware devices)

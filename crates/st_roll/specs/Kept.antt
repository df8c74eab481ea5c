-- What is true of every roll.
use Rattle.std.specs.Prelude.{◌≡◌, ◌≢◌, ℕ, ◌<◌, ◌≤◌, ◌==◌, true, false, List, [], ◌∷◌, ◌++◌, length, map, All, count_by, Some, None, flat_map}
use Rattle.st_net.specs.declared.entity.AppId.{AppId}
use Rattle.st_net.specs.declared.entity.Entity.{Entity}
use Rattle.st_net.specs.declared.entity.Prio.{Prio}
use Rattle.st_net.specs.declared.entity.Row.{Row}
use Rattle.st_net.specs.declared.promise.Broken.{Broken}
use Rattle.st_net.specs.declared.topo.TheConstants.{MAX_ROWS}
use Rattle.st_net.specs.Demands.{demand_count, is_held_in, broken_demand}
use Rattle.st_net.specs.Groups.{Group, IsSound}
use Rattle.st_net.specs.Holders.{is_held_by}
use Rattle.st_event.specs.declared.reply.Cause.{Cause}
use Rattle.st_event.specs.declared.reply.Cause.TheVariants.{NotControllable, Locked, Broken as broken_cause}
use Rattle.st_event.specs.Judge.{refusal_or_version}
use Rattle.st_event.specs.Standing.{Standing, sure_in}
use Rattle.st_control.specs.Verdict.{verdict_in}
use Rattle.st_roll.specs.declared.plan.Batch.{Batch}
use Rattle.st_roll.specs.declared.plan.Roll.{Roll}
use Rattle.st_roll.specs.declared.plan.Stuck.{Stuck}
use Rattle.st_roll.specs.declared.plan.Why.{Why}
use Rattle.st_roll.specs.declared.plan.Why.TheVariants.{Cause as for_cause, Full}
use Rattle.st_roll.specs.Firmware.{firmware_rows}
use Rattle.st_roll.specs.Refusal.{left_up, refusal_in, device_refusal}
use Rattle.st_roll.specs.Roll.{is_at, roll_of}

-- the demand holds of the sure entities, and fails without these devices; so whoever asks them all is refused
pub record IsBrokenBy (g : Group) (st : Standing) (firmware : ℕ) (devices : List ℕ) (broken : Broken) : Type 0 where
  pub among : broken_demand g broken < demand_count g
  pub holds : is_held_in g (sure_in g st) (broken_demand g broken) ≡ true
  pub fails : is_held_in g (left_up g st (firmware_rows firmware devices)) (broken_demand g broken) ≡ false
  pub refused : (app : AppId) → device_refusal g st app firmware devices ≢ None

-- what is said of the demand that a cause names, where it names one
abbrev pub IfBroken : (Broken → Type 0) → Cause → Type 0
IfBroken says (broken_cause broken) = says broken
IfBroken says (NotControllable row lack) = Unit {0}
IfBroken says (Locked e holder prio) = Unit {0}

-- why a device stayed behind a batch: the batch is full; or, where a demand is named, it holds of the sure entities and fails without the
-- batch and the device, so that the batch can't take it
abbrev pub IsBehind : Group → Standing → ℕ → List ℕ → ℕ → Why → Type 0
IsBehind g st firmware batch d Full = MAX_ROWS ≤ length batch
IsBehind g st firmware batch d (for_cause cause) = IfBroken (IsBrokenBy g st firmware (batch ++ d ∷ [])) cause

-- a batch has 1 to 16 devices, whose proposal would be accepted, and what is said of those that it left is so
pub record IsBatch (g : Group) (st : Standing) (app : AppId) (firmware : ℕ) (batch : Batch) : Type 0 where
  pub some : 0 < length batch.devices
  pub few : length batch.devices ≤ MAX_ROWS
  pub accepted : device_refusal g st app firmware batch.devices ≡ None
  pub behind : All (λ l. IsBehind g st firmware batch.devices l.device l.why) batch.left

-- a stuck device is refused by itself, for that cause
abbrev pub IsStuck : Group → Standing → AppId → ℕ → Stuck → Type 0
IsStuck g st app firmware s = device_refusal g st app firmware (s.device ∷ []) ≡ Some s.cause

-- how often a device stands in a list
abbrev pub times : ℕ → List ℕ → ℕ
times d devices = count_by (λ x. x == d) devices

-- all devices of a roll: those of the batches, the stuck ones, and those that have the firmware
abbrev pub devices_in : Roll → List ℕ
devices_in roll = flat_map (λ b. b.devices) roll.batches ++ (map (λ s. s.device) roll.stuck ++ roll.same)

-- each device of the list stands in it as often as in one of the parts of the roll, and no other does
pub record IsRoll (g : Group) (st : Standing) (app : AppId) (devices : List ℕ) (firmware : ℕ) (roll : Roll) : Type 0 where
  pub batches : All (IsBatch g st app firmware) roll.batches
  pub stuck : All (IsStuck g st app firmware) roll.stuck
  pub same : All (λ d. is_at st firmware d ≡ true) roll.same
  pub each : (d : ℕ) → times d (devices_in roll) ≡ times d devices

-- the verdict on rows is their refusal, or else Accepted with the next version
abbrev pub TellsVerdicts : Type 0
TellsVerdicts = (g : Group) (st : Standing) (app : AppId) (rows : List Row) → verdict_in g st app rows ≡ refusal_or_version (refusal_in g st app rows) st.version

-- the application holds no lock
abbrev pub HoldsNone : Standing → AppId → Type 0
HoldsNone st app = (e : Entity) (prio : Prio) → is_held_by app (st.holder e prio) ≡ false

-- rows that would be accepted of an application that holds no lock would be accepted of every application
abbrev pub AcceptedOfAll : Type 0
AcceptedOfAll = (g : Group) (st : Standing) (app other : AppId) (rows : List Row) → HoldsNone st app → refusal_in g st app rows ≡ None → refusal_in g st other rows ≡ None

-- the plan for a sound group is such a roll, however the group stands
abbrev pub PlansAreRolls : Type 0
PlansAreRolls = (g : Group) (st : Standing) (app : AppId) (devices : List ℕ) (firmware : ℕ) → IsSound g → IsRoll g st app devices firmware (roll_of g st app devices firmware)

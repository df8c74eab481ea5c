-- The plan of a rolling upgrade, by how a group stands.
use Rattle.std.specs.Prelude.{ℕ, ◌==◌, Bool, not, List, filter}
use Rattle.st_net.specs.declared.entity.AppId.{AppId}
use Rattle.st_net.specs.declared.entity.Entity.TheVariants.{Device}
use Rattle.st_net.specs.declared.entity.Var.TheVariants.{Firmware}
use Rattle.st_net.specs.Groups.{Group}
use Rattle.st_event.specs.Standing.{Standing}
use Rattle.st_roll.specs.declared.plan.Roll.{Roll}
use Rattle.st_roll.specs.Passes.{all_passes}
use Rattle.st_roll.specs.Refusal.{device_refusal}

-- whether the target has this firmware of a device
abbrev pub is_at : Standing → ℕ → ℕ → Bool
is_at st firmware d = st.target (Device d) Firmware == firmware

-- the devices of which it has another
abbrev pub others_of : Standing → ℕ → List ℕ → List ℕ
others_of st firmware devices = filter (λ d. not (is_at st firmware d)) devices

-- the plan of an application for devices that are to get a firmware: those that have it in the target, and passes over the others
abbrev pub roll_of : Group → Standing → AppId → List ℕ → ℕ → Roll
roll_of g st app devices firmware = record {
  batches = (all_passes (device_refusal g st app firmware) (others_of st firmware devices)).batches;
  stuck = (all_passes (device_refusal g st app firmware) (others_of st firmware devices)).stuck;
  same = filter (is_at st firmware) devices;
}

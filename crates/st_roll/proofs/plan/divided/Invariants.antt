use Rattle.std.proofs.Common.{◌≡◌, take, filter}
use Rattle.st_control.specs.Control.{standing_in}
use Rattle.st_roll.specs.Roll.{is_at, others_of}
use Rattle.st_roll.proofs.plan.divided.Given as goal

abbrev pub invariant-loop-device : goal.invariant-loop-device
invariant-loop-device l =
    (l.same.items ≡ filter (is_at (standing_in l.control) l.firmware) (take l.device-index l.devices))
    × (l.others.items ≡ others_of (standing_in l.control) l.firmware (take l.device-index l.devices))

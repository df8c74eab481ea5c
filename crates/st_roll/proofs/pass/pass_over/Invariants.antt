use Rattle.std.proofs.Common.{◌≡◌, take, fold}
use Rattle.st_control.specs.Control.{standing_in}
use Rattle.st_roll.specs.Judging.{AreGroundsOf}
use Rattle.st_roll.specs.Passes.{no_pass, passed}
use Rattle.st_roll.specs.Refusal.{device_refusal}
use Rattle.st_roll.proofs.pass.pass_over.Given as goal

abbrev pub invariant-loop-device : goal.invariant-loop-device
invariant-loop-device l =
    (l.pass ≡ fold (passed (device_refusal l.control.group (standing_in l.control) l.app l.firmware)) no_pass (take l.device-index l.devices))
    × AreGroundsOf l.control l.grounds

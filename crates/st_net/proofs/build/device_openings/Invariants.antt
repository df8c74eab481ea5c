use Rattle.std.proofs.Common.{◌≡◌, map, take}
use Rattle.st_net.specs.Faults.{device_opening}
use Rattle.st_net.proofs.build.device_openings.Given as goal

abbrev pub invariant-loop-device : goal.invariant-loop-device
invariant-loop-device l = l.openings.items ≡ map device_opening (take l.device-index l.devices)

use Rattle.std.proofs.Common.{◌<◌, length}
use Rattle.std.specs.Prelude.{All}
use Rattle.st_tests_groups.proofs.rolls.drawn_devices.Given as goal

abbrev pub invariant-loop-device : goal.invariant-loop-device
invariant-loop-device l = All (λ d. d < length l.topo.devices) l.devices.items

abbrev pub invariant-loop-device-2 : goal.invariant-loop-device-2
invariant-loop-device-2 l = All (λ d. d < length l.topo.devices) l.devices.items

use Rattle.std.proofs.Common.{◌≡◌, ◌++◌, take}
use Rattle.st_text.specs.Words.{spaced}
use Rattle.st_entry.specs.Words.{device_words}
use Rattle.st_top.proofs.rolling.print_devices.Given as goal

abbrev pub invariant-loop-device : goal.invariant-loop-device
invariant-loop-device l = l.out ≡ l.initial.out ++ spaced (device_words l.topo (take l.device-index l.devices))

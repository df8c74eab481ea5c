use Rattle.std.proofs.Common.{◌≡◌, ◌++◌, take}
use Rattle.std.specs.Prelude.{flat_map}
use Rattle.st_text.specs.Words.{text_of}
use Rattle.st_doc.specs.Printed.{device_healths}
use Rattle.st_doc.proofs.printing.opening.print_devices_healths.Given as goal

abbrev pub invariant-loop-device : goal.invariant-loop-device
invariant-loop-device l = l.out ≡ l.initial.out ++ text_of (flat_map device_healths (take l.device-index l.devices))

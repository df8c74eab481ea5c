use Rattle.std.proofs.Common.{◌≡◌, ◌++◌, take, map}
use Rattle.st_text.specs.Words.{text_of}
use Rattle.st_doc.specs.Printed.{device_words}
use Rattle.st_doc.proofs.printing.parts.print_devices.Given as goal

abbrev pub invariant-loop-device : goal.invariant-loop-device
invariant-loop-device l = l.out ≡ l.initial.out ++ text_of (map device_words (take l.device-index l.devices))

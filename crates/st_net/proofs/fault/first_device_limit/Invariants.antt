use Rattle.std.proofs.Common.{◌≡◌, ◌≤◌, drop}
use Rattle.st_net.specs.Faults.{first_device_limit}
use Rattle.st_net.proofs.fault.first_device_limit.Given as goal

abbrev pub invariant-loop-i : goal.invariant-loop-i
invariant-loop-i l = record {
  left : first_device_limit l.i l.tors (drop l.i l.devices) ≡ first_device_limit 0 0 l.devices;
  few : l.tors ≤ l.i;
}

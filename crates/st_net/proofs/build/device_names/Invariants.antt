use Rattle.std.proofs.Common.{◌≡◌, [], true, take, drop}
use Rattle.st_net.specs.Groups.{are_names}
use Rattle.st_net.specs.Faults.{device_names, first_twice}
use Rattle.st_net.proofs.build.device_names.Given as goal

abbrev pub invariant-loop-i : goal.invariant-loop-i
invariant-loop-i l = record {
  left : first_twice l.names l.i (device_names (drop l.i l.devices)) ≡ first_twice [] 0 (device_names l.devices);
  added : l.names ≡ device_names (take l.i l.devices);
  named : are_names l.names ≡ true;
}

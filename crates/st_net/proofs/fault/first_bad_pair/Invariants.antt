use Rattle.std.proofs.Common.{◌≡◌, ◌+◌, [], take, drop}
use Rattle.st_net.specs.Faults.{device_names, first_bad_pair}
use Rattle.st_net.specs.PairsInside.{TellPromised}
use Rattle.st_net.proofs.fault.first_bad_pair.Given as goal

abbrev pub invariant-loop-i : goal.invariant-loop-i
invariant-loop-i l = record {
  left : first_bad_pair l.devices (take l.i l.promises) (l.at + l.i) (drop l.i l.promises) ≡ first_bad_pair l.devices [] l.at l.promises;
  tell : TellPromised (device_names l.devices) (take l.i l.promises) l.pairs;
}

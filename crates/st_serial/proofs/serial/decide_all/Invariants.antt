use Rattle.std.proofs.Common.{◌≡◌}
use Rattle.st_serial.specs.Serial.{all_decided, states_of}
use Rattle.st_serial.proofs.Runs.{decided_from}
use Rattle.st_serial.proofs.serial.decide_all.Given as goal

-- the groups so far are decided, and what comes of those that are left is what comes of all of them
abbrev pub invariant-loop-world : goal.invariant-loop-world
invariant-loop-world l = record {
  number : l.group ≡ l.world-index;
  past : all_decided 0 (states_of l.fn.worlds) ≡ decided_from l.world-index (states_of l.worlds);
}

use Rattle.std.proofs.Common.{◌≡◌, ◌++◌}
use Rattle.st_serial.specs.Serial.{journals_from, states_of}
use Rattle.st_replay.specs.Again.{AreKeptStates}
use Rattle.st_top.proofs.results.journals_of.Given as goal

-- the journals so far, and the groups that are left
abbrev pub invariant-loop-world : goal.invariant-loop-world
invariant-loop-world l = record {
  journals_are : l.journals.items ≡ journals_from 0 (states_of l.yielded);
  kept : AreKeptStates (states_of l.yielded);
  all : l.fn.worlds.items ≡ l.yielded ++ l.world-iterator.rest.items;
}

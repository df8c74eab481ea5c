use Rattle.std.proofs.Common.{◌≡◌, ◌++◌}
use Rattle.st_serial.specs.Serial.{logs_from}
use Rattle.st_top.proofs.results.logs_of.Given as goal

-- the logs so far, and those that are left
abbrev pub invariant-loop-entries : goal.invariant-loop-entries
invariant-loop-entries l = record {
  logs_are : l.all.items ≡ logs_from 0 l.yielded;
  all : l.fn.logs.items ≡ l.yielded ++ l.entries-iterator.rest.items;
}

use Rattle.std.proofs.Common.{◌≡◌, ◌++◌, reverse, take}
use Rattle.st_serial.specs.Schedule.{ordered as ordered_lem, IsTally}
use Rattle.st_serial.proofs.schedule.add_ordered.Given as goal

-- what the names so far let be done is added, and they are counted
abbrev pub invariant-loop-app : goal.invariant-loop-app
invariant-loop-app l = record {
  counted : IsTally l.apps (reverse (take l.app-index l.order)) l.tally;
  added : l.places.items ≡ l.fn.places.items ++ ordered_lem l.apps (reverse (take l.app-index l.order));
}

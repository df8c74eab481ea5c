use Rattle.std.proofs.Common.{◌≡◌, ◌++◌, ℕ, List}
use Rattle.st_serial.specs.Schedule.{laps as laps_lem, IsTally}
use Rattle.st_serial.proofs.schedule.add_laps.Given as goal

-- the laps so far are added
abbrev pub invariant-loop-k : goal.invariant-loop-k
invariant-loop-k l = (order : List ℕ) → IsTally l.apps order l.tally → l.places.items ≡ l.fn.places.items ++ laps_lem l.apps order l.k

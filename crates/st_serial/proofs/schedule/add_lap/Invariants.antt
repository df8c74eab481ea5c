use Rattle.std.proofs.Common.{◌≡◌, ◌++◌, ℕ, List}
use Rattle.st_serial.specs.Schedule.{lap as lap_lem, IsTally}
use Rattle.st_serial.proofs.schedule.add_lap.Given as goal

-- the applications so far have done their command of the lap
abbrev pub invariant-loop-app : goal.invariant-loop-app
invariant-loop-app l = (order : List ℕ) → IsTally l.apps order l.tally → l.places.items ≡ l.fn.places.items ++ lap_lem l.apps order l.k l.app

-- The tasks of the duties so far.
use Rattle.std.proofs.Common.{◌≡◌, ◌++◌, take}
use Rattle.std.specs.Prelude.{map}
use Rattle.st_run.proofs.tasks.add_tasks.Given as goal

abbrev pub invariant-loop-duty : goal.invariant-loop-duty
invariant-loop-duty l = l.tasks.items ≡ l.initial.tasks.items ++ map (λ duty. record { group = l.group; duty = duty; times = l.times }) (take l.duty-index l.duties)

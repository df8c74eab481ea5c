-- The tasks of the groups so far.
use Rattle.std.proofs.Common.{◌≡◌}
use Rattle.st_run.specs.Tasks.{tasks_by}
use Rattle.st_run.proofs.tasks.tasks_of.Given as goal

abbrev pub invariant-loop-room : goal.invariant-loop-room
invariant-loop-room l = l.tasks.items ≡ tasks_by l.apps l.room

-- The commands of the scripts so far were counted.
use Rattle.std.proofs.Common.{◌≡◌, take}
use Rattle.st_run.specs.Tasks.{settles_of}
use Rattle.st_run.proofs.tasks.settles_of.Given as goal

abbrev pub invariant-loop-app : goal.invariant-loop-app
invariant-loop-app l = l.count ≡ settles_of l.group (take l.app-index l.apps)

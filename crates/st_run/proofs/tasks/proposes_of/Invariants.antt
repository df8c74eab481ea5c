-- The commands of the scripts so far were counted.
use Rattle.std.proofs.Common.{◌≡◌, take}
use Rattle.st_run.specs.Tasks.{proposes_of}
use Rattle.st_run.proofs.tasks.proposes_of.Given as goal

abbrev pub invariant-loop-app : goal.invariant-loop-app
invariant-loop-app l = l.count ≡ proposes_of l.group (take l.app-index l.apps)

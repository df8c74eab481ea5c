use Rattle.std.proofs.Common.{◌≡◌}
use Rattle.st_run.specs.Jobs.{awaits_on}
use Rattle.st_run.proofs.playing.awaits_of.Given as goal

-- an await on each of the groups so far
abbrev pub invariant-loop-group : goal.invariant-loop-group
invariant-loop-group l = l.acts.items ≡ awaits_on l.group

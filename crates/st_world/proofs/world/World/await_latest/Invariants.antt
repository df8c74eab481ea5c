use Rattle.st_world.specs.Acts.{has_one_of}
use Rattle.st_world.proofs.ActLaws.{IsChecking}
use Rattle.st_world.proofs.world.World.await_latest.Given as goal

-- the checks that are left lead to where all of them lead
abbrev pub invariant-loop-left : goal.invariant-loop-left
invariant-loop-left l = IsChecking (has_one_of l.app) l.fn.self l.self l._left

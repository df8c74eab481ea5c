use Rattle.st_world.specs.Acts.{is_something}
use Rattle.st_world.proofs.ActLaws.{IsChecking}
use Rattle.st_world.proofs.world.World.check_all.Given as goal

-- the checks that are left lead to where all of them lead
abbrev pub invariant-loop-left : goal.invariant-loop-left
invariant-loop-left l = IsChecking is_something l.fn.self l.self l._left

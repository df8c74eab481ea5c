use Rattle.st_world.proofs.ActLaws.{IsSettling}
use Rattle.st_world.proofs.world.World.settle.Given as goal

-- the rounds that are left lead to where all of them lead
abbrev pub invariant-loop-round : goal.invariant-loop-round
invariant-loop-round l = IsSettling l.rounds l.fn.self l.self l._round

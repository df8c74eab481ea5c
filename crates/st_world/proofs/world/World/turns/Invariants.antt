use Rattle.st_world.proofs.RoundLaws.{IsTurning}
use Rattle.st_world.proofs.world.World.turns.Given as goal

-- the turns that are left end as all of them from the start
abbrev pub invariant-loop-entity : goal.invariant-loop-entity
invariant-loop-entity l = IsTurning l.fn.self l.self l.entities l.entity-index

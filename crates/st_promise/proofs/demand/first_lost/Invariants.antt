use Rattle.std.proofs.Common.{◌≡◌, drop}
use Rattle.std.specs.Prelude.{Bool}
use Rattle.st_net.specs.declared.entity.Entity.{Entity}
use Rattle.st_net.specs.Promises.{first_broken}
use Rattle.st_promise.specs.Wide.{held_in_both}
use Rattle.st_promise.proofs.demand.first_lost.Given as goal

abbrev pub invariant-loop-i : goal.invariant-loop-i
invariant-loop-i l = (up down : Entity → Bool) → l.answers ≡ held_in_both l.topo up down → first_broken l.topo up down l.i (drop l.i l.topo.promises) ≡ first_broken l.topo up down 0 l.topo.promises

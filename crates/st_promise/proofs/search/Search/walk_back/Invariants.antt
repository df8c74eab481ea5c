use Rattle.std.proofs.Common.{ℕ, ◌<◌, List, length}
use Rattle.std.specs.Prelude.{Bool, reverse}
use Rattle.st_net.specs.declared.entity.Entity.{Entity}
use Rattle.st_net.specs.declared.topo.LinkOpening.{LinkOpening}
use Rattle.st_net.specs.UpGraph.{IsWalk}
use Rattle.st_promise.specs.Search.{step_at, IsSearch}
use Rattle.st_promise.proofs.search.Search.walk_back.Given as goal

abbrev pub invariant-loop-came : goal.invariant-loop-came
invariant-loop-came l = record {
  within : l.at < length l.self.steps;
  walk : (n : ℕ) (links : List LinkOpening) (up : Entity → Bool) → IsSearch n links up l.self → IsWalk links up (step_at l.self l.at).device (reverse l.links.items) (step_at l.self l.step).device;
}

abbrev pub decreases-loop-came : goal.decreases-loop-came
decreases-loop-came l = l.at

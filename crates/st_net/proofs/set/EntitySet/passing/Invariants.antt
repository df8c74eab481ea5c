use Rattle.std.proofs.Common.{◌≡◌, Bool}
use Rattle.std.specs.Prelude.{true, false}
use Rattle.st_net.specs.declared.entity.Entity.{Entity}
use Rattle.st_net.specs.Groups.{IsEntityOf}
use Rattle.st_net.specs.Sets.{is_in, MarksOf}
use Rattle.st_net.proofs.EntityLoops.{AreSetBefore}
use Rattle.st_net.proofs.set.EntitySet.passing.Given as goal

-- of the entities so far those that pass are marked
abbrev pub invariant-loop-place : goal.invariant-loop-place
invariant-loop-place g l = record {
  marks : MarksOf l.topo l.set;
  passed : (p : Entity → Bool) → ((e : Entity) (b : Bool) → IsEntityOf l.topo e → goal.F-post g l.test e b → b ≡ p e) → AreSetBefore l.topo l.place p true (λ e. false) (is_in l.set);
}

use Rattle.std.proofs.Common.{◌≡◌}
use Rattle.std.specs.Prelude.{true}
use Rattle.st_net.specs.declared.entity.Entity.{Entity}
use Rattle.st_net.specs.Sets.{is_in}
use Rattle.st_net.proofs.EntityLoops.{is_before}
use Rattle.st_promise.proofs.within.is_within.Given as goal

-- each entity so far of the one set is in the other
abbrev pub invariant-loop-place : goal.invariant-loop-place
invariant-loop-place l = (e : Entity) → is_before l.topo l.place e ≡ true → is_in l.set e ≡ true → is_in l.other e ≡ true

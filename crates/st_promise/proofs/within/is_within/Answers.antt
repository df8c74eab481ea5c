use Rattle.std.proofs.Common.{◌≡◌, arith, rules}
use Rattle.std.specs.Prelude.{true}
use Rattle.st_net.specs.Sets.{is_in}
use Rattle.st_net.proofs.SetLaws.{in_own}
use Rattle.st_net.proofs.EntityLoops.{before_next, before_end}
use Rattle.st_promise.proofs.within.is_within.Goals as goal
use Rattle.st_promise.proofs.within.is_within.Goals.{else-has-via-then-has+else-not-has, else-has-via-else-has}

pub loop-place-preserved : goal.loop-place-preserved
loop-place-preserved c =
    let low = c.loop-place-test.true in
    let entity = c.entity_at-entity.ensures in
    before_next c.args.topo.now c.loop-place.place c.entity_at-entity.result (λ e. is_in c.args.set.now e ≡ true → is_in c.args.other.now e ≡ true)
    (omega (arith, low)) entity.of entity.at
    (elim c.else-has.branch [ else-has-via-then-has+else-not-has w ↦ λ inside. cc | else-has-via-else-has w ↦ λ inside. cc ])
    c.loop-place.invariant

pub returns : goal.returns
returns c = (
  λ all e inside. before_end c.args.topo.now c.loop-place.place (λ at. is_in c.args.set.now at ≡ true → is_in c.args.other.now at ≡ true) (omega arith) c.loop-place.invariant
      e (in_own c.args.topo.now c.args.set.now e c.requires.set inside) inside,
  λ within. search rules,
)

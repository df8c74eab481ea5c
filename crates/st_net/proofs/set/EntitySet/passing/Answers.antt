use Rattle.std.proofs.Common.{Bool, ap, sym, arith}
use Rattle.std.specs.Prelude.{true, false}
use Rattle.st_net.specs.declared.entity.Entity.{Entity}
use Rattle.st_net.specs.Sets.{is_in}
use Rattle.st_net.proofs.EntityLoops.{set_none, set_next, leave_next, set_over}
use Rattle.st_net.proofs.SetLaws.{marks_kept}
use Rattle.st_net.proofs.set.EntitySet.passing.Goals as goal
use Rattle.st_net.proofs.set.EntitySet.passing.Goals.{then-test, else-test}

pub loop-place-init : goal.loop-place-init
loop-place-init g c = record {
  marks = c.in_ok-set.ensures.of;
  passed = λ p decides. rw c.in_ok-set.ensures.none (set_none c.args.topo.now p true (λ e. false));
}

pub loop-place-preserved : goal.loop-place-preserved
loop-place-preserved g c =
    let low = c.loop-place-test.true in
    elim c.if-test.branch [
      | then-test w ↦ rw w.set-is (record {
        marks = marks_kept c.args.topo.now c.loop-place.set w.put.new.self c.loop-place.invariant.marks w.put.ensures.same;
        passed = λ p decides. set_next c.args.topo.now c.loop-place.place c.entity_at-entity.result p true (λ e. false) (is_in c.loop-place.set) (is_in w.put.new.self)
            (omega arith) c.entity_at-entity.ensures.of c.entity_at-entity.ensures.at (sym (decides c.entity_at-entity.result true c.entity_at-entity.ensures.of w.if-test.ensures)) (λ e. ap (λ (s : Entity → Bool). s e) w.put.ensures.members) (c.loop-place.invariant.passed p decides);
      })
      | else-test w ↦ rw w.set-is (record {
        marks = c.loop-place.invariant.marks;
        passed = λ p decides. leave_next c.args.topo.now c.loop-place.place c.entity_at-entity.result p true (λ e. false) (is_in c.loop-place.set)
            (omega arith) c.entity_at-entity.ensures.of c.entity_at-entity.ensures.at (sym (decides c.entity_at-entity.result false c.entity_at-entity.ensures.of w.if-test.ensures)) (c.loop-place.invariant.passed p decides);
      })
    ]

pub returns-clause-passing : goal.returns-clause-passing
returns-clause-passing g c = λ p decides. set_over c.args.topo.now c.loop-place.place p (is_in c.loop-place.set) (omega arith) (c.loop-place.invariant.passed p decides)

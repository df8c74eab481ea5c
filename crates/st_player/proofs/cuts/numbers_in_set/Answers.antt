use Rattle.std.proofs.Common.{◌<◌, length, ap, sym, ◌∙◌, arith}
use Rattle.st_net.specs.InOrder.{entities_of}
use Rattle.st_net.specs.Sets.{is_in}
use Rattle.st_player.proofs.CutLemmas.{numbers_put, numbers_skip}
use Rattle.st_player.proofs.cuts.numbers_in_set.Goals as goal
use Rattle.st_player.proofs.cuts.numbers_in_set.Goals.{then-has+in_ok-push, else-has}

pub loop-place-preserved : goal.loop-place-preserved
loop-place-preserved c =
    let low : c.loop-place.place < length (entities_of c.args.topo.now) = omega (arith, c.loop-place-test.true, c.entity_count-place-end.ensures) in
    elim c.if-has.branch [
      | then-has+in_ok-push w ↦ ap (λ v. v.items) w.numbers-is ∙ numbers_put c.args.topo.now (is_in c.args.set.now) c.loop-place.place c.entity_at.result c.loop-place.numbers.items _ low c.entity_at.ensures.at (sym c.has.ensures ∙ w.if-has.true) c.loop-place.invariant w.in_ok-push.ensures.items
      | else-has w ↦ ap (λ v. v.items) w.numbers-is ∙ numbers_skip c.args.topo.now (is_in c.args.set.now) c.loop-place.place c.entity_at.result c.loop-place.numbers.items low c.entity_at.ensures.at (sym c.has.ensures ∙ w.if-has.false) c.loop-place.invariant
    ]

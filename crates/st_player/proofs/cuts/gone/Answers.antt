use Rattle.std.proofs.Common.{◌<◌, length, ap, sym, ◌∙◌, arith, Bool}
use Rattle.std.specs.Prelude.{◌&&◌, not}
use Rattle.st_net.specs.declared.entity.Entity.{Entity}
use Rattle.st_net.specs.InOrder.{entities_of}
use Rattle.st_net.specs.Sets.{is_in}
use Rattle.st_player.specs.Cuts.{is_part_of}
use Rattle.st_player.proofs.CutLemmas.{numbers_put, numbers_skip}
use Rattle.st_player.proofs.cuts.gone.Goals as goal
use Rattle.st_player.proofs.cuts.gone.Goals.{then-is_gone+in_ok-push, else-is_gone}

pub loop-place-preserved : goal.loop-place-preserved
loop-place-preserved c =
    let test : Entity → Bool = λ e. is_part_of c.args.topo.now c.args.links.now e && not (is_in c.args.sure.now e) in
    let low : c.loop-place.place < length (entities_of c.args.topo.now) = omega (arith, c.loop-place-test.true, c.entity_count-place-end.ensures) in
    elim c.if-is_gone.branch [
      | then-is_gone+in_ok-push w ↦ ap (λ v. v.items) w.numbers-is ∙ numbers_put c.args.topo.now test c.loop-place.place c.entity_at.result c.loop-place.numbers.items _ low c.entity_at.ensures.at (sym c.is_gone.ensures ∙ w.if-is_gone.true) c.loop-place.invariant w.in_ok-push.ensures.items
      | else-is_gone w ↦ ap (λ v. v.items) w.numbers-is ∙ numbers_skip c.args.topo.now test c.loop-place.place c.entity_at.result c.loop-place.numbers.items low c.entity_at.ensures.at (sym c.is_gone.ensures ∙ w.if-is_gone.false) c.loop-place.invariant
    ]

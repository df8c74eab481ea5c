use Rattle.std.proofs.Common.{◌<◌, length, ap, sym, ◌∙◌, arith}
use Rattle.st_net.specs.Sets.{is_in}
use Rattle.st_player.specs.Cuts.{is_marked, is_one_across}
use Rattle.st_player.proofs.CutLemmas.{links_put, links_skip}
use Rattle.st_player.proofs.cuts.crossing.Goals as goal
use Rattle.st_player.proofs.cuts.crossing.Goals.{then-is_across+in_ok-push, else-is_across}

pub loop-link-preserved : goal.loop-link-preserved
loop-link-preserved c =
    let test = is_one_across (is_in c.args.up.now) c.args.are_up (is_marked c.args.marks.now) in
    let low : c.loop-link.link < length c.args.topo.now.links = omega (arith, c.loop-link-test.true, c.link_count-link-end.ensures) in
    elim c.if-is_across.branch [
      | then-is_across+in_ok-push w ↦ ap (λ v. v.items) w.links-is ∙ links_put test c.args.topo.now.links c.loop-link.link c.loop-link.links.items _ low (sym c.is_across.ensures ∙ w.if-is_across.true) c.loop-link.invariant w.in_ok-push.ensures.items
      | else-is_across w ↦ ap (λ v. v.items) w.links-is ∙ links_skip test c.args.topo.now.links c.loop-link.link c.loop-link.links.items low (sym c.is_across.ensures ∙ w.if-is_across.false) c.loop-link.invariant
    ]

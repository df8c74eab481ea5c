use Rattle.std.proofs.Common.{◌≡◌, ◌∙◌, ◌<◌, ◌≤◌, [], length, refl, ap, sym, arith}
use Rattle.std.specs.Prelude.{flat_map}
use Rattle.std.proofs.lemmas.List.{take_all}
use Rattle.st_net.specs.Groups.{Group, no_promise, promise_of}
use Rattle.st_net.specs.Promises.{is_kept}
use Rattle.st_event.specs.Observed.{actual}
use Rattle.st_report.proofs.Adding.{flat_next}
use Rattle.st_report.proofs.Gathered.{lost_texts, lost_are, mark_of}
use Rattle.st_report.proofs.promises.lost_lines.Goals as goal

pub loop-i-init : goal.loop-i-init
loop-i-init c = c.new-lines.ensures

pub loop-i-preserved : goal.loop-i-preserved
loop-i-preserved c =
    let g = c.args.world.now.history.group in
    let past = c.args.world.now.history.past in
    let same : c.topo-topo.result.now ≡ g = c.topo-topo.ensures.topo ∙ c.control.ensures.group in
    let count = ap (λ (h : Group). length h.promises) same in
    let low : c.loop-i.i < length g.promises = omega (arith, c.loop-i-test.true, c.promise_count-i-end.ensures, count) in
    let before : c.index-before.result.now ≡ is_kept g (actual g []) (promise_of g c.loop-i.i) = c.index-before.ensures ∙ mark_of g (actual g []) c.args.held.now.at_start.items c.loop-i.i _ c.requires.start low in
    let after : c.index-after.result.now ≡ is_kept g (actual g past) (promise_of g c.loop-i.i) = c.index-after.ensures ∙ mark_of g (actual g past) c.args.held.now.at_end.items c.loop-i.i _ c.requires.end low in
    flat_next (lost_texts g past) g.promises c.loop-i.i (promise_of g c.loop-i.i) no_promise [] c.loop-i.lines c.add_lost.new.lines low refl c.loop-i.invariant (rw (before, after, same) at c.in_ok-add_lost.ensures)

pub returns : goal.returns
returns c =
    let g = c.args.world.now.history.group in
    let past = c.args.world.now.history.past in
    let count = ap (λ (h : Group). length h.promises) (c.topo-topo.ensures.topo ∙ c.control.ensures.group) in
    let ended : length g.promises ≤ c.loop-i.i = omega (arith, c.loop-i-test.false, c.promise_count-i-end.ensures, count) in
    c.loop-i.invariant ∙ (ap (flat_map (lost_texts g past)) (take_all c.loop-i.i g.promises ended) ∙ sym (lost_are g past))

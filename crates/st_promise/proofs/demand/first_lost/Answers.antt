use Rattle.std.proofs.Common.{◌<◌, List, false, length, take, drop, sym, ap, ◌∙◌, arith}
use Rattle.std.specs.Prelude.{Bool, slice_index_or}
use Rattle.st_net.specs.Asks.{ask_count}
use Rattle.st_promise.proofs.JudgeLaws.{passed_failed, passed_kept}
use Rattle.st_promise.proofs.WideLaws.{told_after, told_before, lost_here}
use Rattle.st_promise.proofs.demand.first_lost.Goals.{else-held_before-i-via-then-held_before-i+else-not-holds-i, else-held_before-i-via-else-held_before-i}
use Rattle.st_promise.proofs.demand.first_lost.Goals as goal

pub returns-then-not-holds-i : goal.returns-then-not-holds-i
returns-then-not-holds-i c = λ up down net held.
    let g = c.args.topo.now in
    let i = c.loop-i.i in
    let low : i < length g.promises = omega (arith, c.promise_count-i-end.ensures) in
    let front = c.split_at.ensures.front ∙ ap (λ n. take n c.args.answers.now) c.ask_count.ensures ∙ ap (take (ask_count g)) held in
    let back = c.split_at.ensures.back ∙ ap (λ n. drop n c.args.answers.now) c.ask_count.ensures ∙ ap (drop (ask_count g)) held in
    let fails = sym (ap (λ (l : List Bool). slice_index_or l i false) front ∙ told_after g up down i low) ∙ c.if-not-holds-i.true in
    let was = sym (ap (λ (l : List Bool). slice_index_or l i false) back ∙ told_before g up down i low) ∙ c.if-held_before-i.true in
    lost_here g up down i c.lost_in.result low was fails (c.lost_in.ensures up down net was) (c.loop-i.invariant up down held)

pub loop-i-preserved : goal.loop-i-preserved
loop-i-preserved c = λ up down held.
    let g = c.args.topo.now in
    let i = c.loop-i.i in
    let low : i < length g.promises = omega (arith, c.promise_count-i-end.ensures) in
    let front = c.split_at.ensures.front ∙ ap (λ n. take n c.args.answers.now) c.ask_count.ensures ∙ ap (take (ask_count g)) held in
    let back = c.split_at.ensures.back ∙ ap (λ n. drop n c.args.answers.now) c.ask_count.ensures ∙ ap (drop (ask_count g)) held in
    let after = ap (λ (l : List Bool). slice_index_or l i false) front ∙ told_after g up down i low in
    let before = ap (λ (l : List Bool). slice_index_or l i false) back ∙ told_before g up down i low in
    let first = c.loop-i.invariant up down held in
    elim c.else-held_before-i.branch [
      | else-held_before-i-via-then-held_before-i+else-not-holds-i w ↦ sym (passed_kept g up down i low (sym after ∙ w.if-not-holds-i.false)) ∙ first
      | else-held_before-i-via-else-held_before-i w ↦ sym (passed_failed g up down i low (sym before ∙ w.if-held_before-i.false)) ∙ first
    ]

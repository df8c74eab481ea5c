use Rattle.std.proofs.Common.{◌<◌, length, refl, subst, sym, ap, ◌∙◌, arith}
use Rattle.std.specs.Prelude.{Some}
use Rattle.st_net.specs.Sets.{is_in}
use Rattle.st_net.specs.Asks.{ask_count}
use Rattle.st_promise.specs.Change.{IsChange}
use Rattle.st_promise.proofs.JudgeLaws.{passed_failed, passed_kept}
use Rattle.st_promise.proofs.ToFirstLaws.{ahead_known, change_ahead, ahead_open, told_more, breaks_here, breaks_told}
use Rattle.st_promise.proofs.to_first.judge_to_first.Goals.{in-Holds+in_ok-push-in-Holds, in-Failed+in_ok-push-in-Failed}
use Rattle.st_promise.proofs.to_first.judge_to_first.Goals as goal

pub loop-i-init : goal.loop-i-init
loop-i-init g c = record {
  holds = c.in_ok-holds.ensures.items;
  first = refl;
  ahead = c.none-ahead.ensures c.args.topo.now (is_in c.args.before.now) (is_in c.args.after.now) c.args.known.now;
}

pub loop-i-preserved-then-is_marked : goal.loop-i-preserved-then-is_marked
loop-i-preserved-then-is_marked g c =
    let topo = c.args.topo.now in
    let up = is_in c.args.before.now in
    let down = is_in c.args.after.now in
    let low : c.loop-i.i < ask_count topo = omega (arith, c.ask_count-i-end.ensures) in
    let mark = sym c.is_marked.ensures ∙ c.if-is_marked.true in
    let kept = c.requires.known c.loop-i.i low mark in
    record {
      holds = c.in_ok-push.ensures.items ∙ told_more topo down c.loop-i.i c.loop-i.holds.items _ low kept c.loop-i.invariant.holds;
      first = sym (passed_kept topo up down c.loop-i.i low kept) ∙ c.loop-i.invariant.first;
      ahead = ahead_known topo up down c.args.known.now c.loop-i.i c.loop-i.ahead low mark c.loop-i.invariant.ahead;
    }

pub returns-in-Breaks-clause-first : goal.returns-in-Breaks-clause-first
returns-in-Breaks-clause-first g c =
    let topo = c.args.topo.now in
    let up = is_in c.args.before.now in
    let down = is_in c.args.after.now in
    let low : c.loop-i.i < ask_count topo = omega (arith, c.ask_count-i-end.ensures) in
    let unmarked = sym c.is_marked.ensures ∙ c.if-is_marked.false in
    let change = change_ahead topo up down c.args.known.now c.loop-i.i c.fill.new.self c.index.result.now low unmarked c.in_ok-fill.ensures.some c.index.ensures c.in_ok-fill.ensures.ahead in
    let breaks = subst (IsChange topo up down c.loop-i.i) c.in-Breaks.is change in
    ap Some c.in_ok-copy-in-Breaks.ensures ∙ breaks_here topo up down c.loop-i.i c.in-Breaks.broken low breaks c.loop-i.invariant.first

pub returns-in-Breaks-clause-holds : goal.returns-in-Breaks-clause-holds
returns-in-Breaks-clause-holds g c =
    let topo = c.args.topo.now in
    let up = is_in c.args.before.now in
    let down = is_in c.args.after.now in
    let low : c.loop-i.i < ask_count topo = omega (arith, c.ask_count-i-end.ensures) in
    let unmarked = sym c.is_marked.ensures ∙ c.if-is_marked.false in
    let change = change_ahead topo up down c.args.known.now c.loop-i.i c.fill.new.self c.index.result.now low unmarked c.in_ok-fill.ensures.some c.index.ensures c.in_ok-fill.ensures.ahead in
    let breaks = subst (IsChange topo up down c.loop-i.i) c.in-Breaks.is change in
    rw c.in_ok-copy-in-Breaks.ensures (c.in_ok-push-in-Breaks.ensures.items ∙ breaks_told topo up down c.loop-i.i c.in-Breaks.broken c.loop-i.holds.items low breaks c.loop-i.invariant.holds)

pub loop-i-preserved : goal.loop-i-preserved
loop-i-preserved g c =
    let topo = c.args.topo.now in
    let up = is_in c.args.before.now in
    let down = is_in c.args.after.now in
    let low : c.loop-i.i < ask_count topo = omega (arith, c.ask_count-i-end.ensures) in
    let unmarked = sym c.is_marked.ensures ∙ c.if-is_marked.false in
    let change = change_ahead topo up down c.args.known.now c.loop-i.i c.fill.new.self c.index.result.now low unmarked c.in_ok-fill.ensures.some c.index.ensures c.in_ok-fill.ensures.ahead in
    let ahead = ahead_open topo up down c.args.known.now c.loop-i.i c.fill.new.self _ c.index.result.now low unmarked c.in_ok-fill.ensures.some c.index.ensures c.in_ok-fill.ensures.ahead refl in
    elim c.match-index.branch [
      | in-Holds+in_ok-push-in-Holds w ↦ (
          let kept = subst (IsChange topo up down c.loop-i.i) w.in-Holds.is change in
          record {
            holds = rw w.holds-is (w.in_ok-push-in-Holds.ensures.items ∙ told_more topo down c.loop-i.i c.loop-i.holds.items _ low kept c.loop-i.invariant.holds);
            first = sym (passed_kept topo up down c.loop-i.i low kept) ∙ c.loop-i.invariant.first;
            ahead = ahead;
          })
      | in-Failed+in_ok-push-in-Failed w ↦ (
          let failed = subst (IsChange topo up down c.loop-i.i) w.in-Failed.is change in
          record {
            holds = rw w.holds-is (w.in_ok-push-in-Failed.ensures.items ∙ told_more topo down c.loop-i.i c.loop-i.holds.items _ low failed.1 c.loop-i.invariant.holds);
            first = sym (passed_failed topo up down c.loop-i.i low failed.0) ∙ c.loop-i.invariant.first;
            ahead = ahead;
          })
    ]

use Rattle.std.proofs.Common.{◌<◌, ◌≤◌, length, ap, ◌∙◌, arith}
use Rattle.st_net.specs.Sets.{is_in}
use Rattle.st_promise.specs.Search.{Visits}
use Rattle.st_promise.proofs.VisitLaws.{more_visited, all_visited}
use Rattle.st_promise.proofs.search.Search.run.Goals as goal

pub loop-next-init : goal.loop-next-init
loop-next-init c = record {
  search = c.in_ok-search.ensures.search (is_in c.args.up.now);
  root = c.in_ok-search.ensures.root;
  within = omega arith;
  visited = λ k low. absurd (omega arith);
}

pub loop-next-preserved : goal.loop-next-preserved
loop-next-preserved c =
    let steps = ap (λ (s : Visits). length s.steps) c.search.view_is in
    let low : c.loop-next.next < length c.loop-next.search.steps = omega (arith, steps, c.len.ensures, c.loop-next-test.true, c.search.inside.steps.ok.0) in
    record {
      search = c.in_ok-visit.ensures.search;
      root = c.in_ok-visit.ensures.more.root ∙ c.loop-next.invariant.root;
      within = omega (arith, low, c.in_ok-visit.ensures.more.more);
      visited = more_visited c.args.topo.now.links (is_in c.args.up.now) c.loop-next.search c.visit.new.self c.loop-next.next c.in_ok-visit.ensures.more low c.loop-next.invariant.visited c.in_ok-visit.ensures.visited;
    }

pub returns-clause-settled : goal.returns-clause-settled
returns-clause-settled c =
    let steps = ap (λ (s : Visits). length s.steps) c.search.view_is in
    let past : length c.loop-next.search.steps ≤ c.loop-next.next = omega (arith, steps, c.len.ensures, c.loop-next-test.false, c.search.inside.steps.ok.0) in
    all_visited c.args.topo.now.links (is_in c.args.up.now) (length c.args.topo.now.devices) c.loop-next.search c.loop-next.invariant.search (λ k low. c.loop-next.invariant.visited k (omega (arith, low, past)))

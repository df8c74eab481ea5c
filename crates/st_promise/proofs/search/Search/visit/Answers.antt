use Rattle.std.proofs.Common.{◌≡◌, ap, sym, subst, ◌∙◌, arith}
use Rattle.std.specs.Prelude.{true}
use Rattle.st_net.specs.Sets.{is_in}
use Rattle.st_promise.specs.declared.search.Step.{Step}
use Rattle.st_promise.specs.Search.{Visits, is_found, IsVisited}
use Rattle.st_promise.proofs.SearchLaws.{found_low, extends_on}
use Rattle.st_promise.proofs.ReachLaws.{step_read}
use Rattle.st_promise.proofs.VisitLaws.{left_is, left_low, left_next, left_none, fewer}
use Rattle.st_promise.proofs.search.Search.visit.Goals as goal

pub last-next-requires-clause-device : goal.last-next-requires-clause-device
last-next-requires-clause-device c =
    let read = step_read _ _ c.args.step _ (ap (λ (s : Visits). s.steps) c.self.view_is) c.requires.step c.index.ensures in
    let low = found_low c.args.self.now _ (c.requires.search.each c.args.step c.requires.step) in
    omega (arith, low, ap (λ (s : Step). s.device) read, c.requires.search.one_each)

pub follow-requires-clause-link : goal.follow-requires-clause-link
follow-requires-clause-link c = (left_low _ _ _ _ c.in-Some.link (left_is _ _ _ _ _ _ c.in-Some.is c.loop-next.invariant.left)).0

pub before-next-requires-clause-link : goal.before-next-requires-clause-link
before-next-requires-clause-link c = (left_low _ _ _ _ c.in-Some.link (left_is _ _ _ _ _ _ c.in-Some.is c.loop-next.invariant.left)).0

pub before-next-requires-clause-end : goal.before-next-requires-clause-end
before-next-requires-clause-end c = (left_low _ _ _ _ c.in-Some.link (left_is _ _ _ _ _ _ c.in-Some.is c.loop-next.invariant.left)).1

pub loop-next-smaller : goal.loop-next-smaller
loop-next-smaller c = fewer c.args.topo.now.links c.index.result.now.device c.in-Some.link c.loop-next.next c.before-next.result c.in-Some.is c.before-next.ensures

pub loop-next-preserved : goal.loop-next-preserved
loop-next-preserved c =
    let read = step_read _ _ c.args.step _ (ap (λ (s : Visits). s.steps) c.self.view_is) c.requires.step c.index.ensures in
    let found : is_found c.args.self.now c.index.result.now.device ≡ true = ap (λ (s : Step). is_found c.args.self.now s.device) (sym read) ∙ c.requires.search.each c.args.step c.requires.step in
    let more = extends_on c.args.self.now c.loop-next.self c.follow.new.self c.loop-next.invariant.more c.in_ok-follow.ensures.more in
    record {
      search = c.in_ok-follow.ensures.search;
      more = more;
      left = left_next c.args.topo.now.links (is_in c.args.up.now) c.loop-next.self c.follow.new.self c.index.result.now.device c.in-Some.link c.before-next.result (left_is _ _ _ _ _ _ c.in-Some.is c.loop-next.invariant.left) c.in_ok-follow.ensures.more (more.kept _ found) c.in_ok-follow.ensures.joined c.before-next.ensures;
    }

pub returns-clause-visited : goal.returns-clause-visited
returns-clause-visited c =
    let read = step_read _ _ c.args.step _ (ap (λ (s : Visits). s.steps) c.self.view_is) c.requires.step c.index.ensures in
    subst (λ (s : Step). IsVisited c.args.topo.now.links (is_in c.args.up.now) c.loop-next.self s.device) (sym read) (left_none _ _ _ _ (left_is _ _ _ _ _ _ c.in_default.is c.loop-next.invariant.left))

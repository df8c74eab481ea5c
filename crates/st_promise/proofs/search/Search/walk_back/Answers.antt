use Rattle.std.proofs.Common.{◌≡◌, Some, ap, ◌∙◌, arith}
use Rattle.st_promise.specs.Search.{Visits, step_at}
use Rattle.st_promise.specs.declared.search.Step.{Step}
use Rattle.st_promise.proofs.ReachLaws.{step_read, came_from, walk_before, walk_whole}
use Rattle.st_promise.proofs.search.Search.walk_back.Goals as goal

pub loop-came-preserved : goal.loop-came-preserved
loop-came-preserved c =
    let read = step_read _ _ c.loop-came.at _ (ap (λ (s : Visits). s.steps) c.self.view_is) c.loop-came.invariant.within c.index.ensures in
    let came : (step_at c.args.self.now c.loop-came.at).came ≡ Some c.in-Some.came = ap (λ (s : Step). s.came) read ∙ c.in-Some.is in
    record {
      within = (let back = came_from _ _ _ c.args.self.now c.loop-came.at c.in-Some.came c.requires.search.3 c.loop-came.invariant.within came in omega (arith, back.0, c.loop-came.invariant.within));
      walk = λ n links up is. walk_before n links up c.args.self.now c.loop-came.at c.in-Some.came c.loop-came.links.items _ _ is c.loop-came.invariant.within came c.in_ok-push.ensures.items (c.loop-came.invariant.walk n links up is);
    }

pub returns : goal.returns
returns c =
    let read = step_read _ _ c.loop-came.at _ (ap (λ (s : Visits). s.steps) c.self.view_is) c.loop-came.invariant.within c.index.ensures in
    let start = ap (λ (s : Step). s.came) read ∙ c.in_default.is in
    λ n links up is. walk_whole n links up c.args.self.now c.loop-came.at c.loop-came.links.items _ _ is c.loop-came.invariant.within start (c.new.ensures ∙ c.reverse.ensures.items) (c.loop-came.invariant.walk n links up is)

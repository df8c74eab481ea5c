use Rattle.std.proofs.Common.{ℕ, ap, subst}
use Rattle.st_net.specs.UpGraph.{IsWalk}
use Rattle.st_promise.specs.Search.{Visits}
use Rattle.st_promise.proofs.SearchLaws.{place_read}
use Rattle.st_promise.proofs.search.Search.walk_to.Goals as goal

pub walk_back-requires-clause-step : goal.walk_back-requires-clause-step
walk_back-requires-clause-step c =
    let place = place_read _ _ c.args.device _ _ (ap (λ (s : Visits). s.places) c.self.view_is) c.requires.device c.index.ensures c.in-Some.is in
    (c.requires.search.3.placed c.args.device c.in-Some.step place).0

pub returns-in_ok-walk_back-in-Some-clause-walk : goal.returns-in_ok-walk_back-in-Some-clause-walk
returns-in_ok-walk_back-in-Some-clause-walk c = λ n links up is.
    let place = place_read _ _ c.args.device _ _ (ap (λ (s : Visits). s.places) c.self.view_is) c.requires.device c.index.ensures c.in-Some.is in
    subst (λ (d : ℕ). IsWalk links up c.args.self.now.root c.in_ok-walk_back-in-Some.field-0 d) (is.placed c.args.device c.in-Some.step place).1 (c.in_ok-walk_back-in-Some.ensures n links up is)

use Rattle.std.proofs.Common.{◌≡◌, length, subst, sym}
use Rattle.std.proofs.lemmas.Result.{on_ok_weaker}
use Rattle.st_net.specs.Sets.{is_in}
use Rattle.st_promise.specs.Search.{Visits, IsSearch, entered}
use Rattle.st_promise.proofs.SearchLaws.{entered_is}
use Rattle.st_promise.proofs.search.Search.follow.Goals as goal

pub returns-in-Some-clause-search : goal.returns-in-Some-clause-search
returns-in-Some-clause-search c = on_ok_weaker c.enter.result (λ (made : c.enter.new.self ≡ entered c.args.self.now c.in-Some.step). subst (λ (s : Visits). IsSearch (length c.args.topo.now.devices) c.args.topo.now.links (is_in c.args.up.now) s) (sym made) (entered_is _ _ _ c.args.self.now c.in-Some.step c.requires.search c.in-Some.ensures.next)) c.enter.ensures.ok

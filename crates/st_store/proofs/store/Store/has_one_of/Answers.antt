use Rattle.std.proofs.Common.{◌∙◌, ap, rules}
use Rattle.std.specs.Prelude.{◌==◌}
use Rattle.std.specs.List.{list_any}
use Rattle.std.proofs.lemmas.Iterator.Search.{any_from_yields_List}
use Rattle.std.proofs.lemmas.Iterator.Consumers.{YieldsList-from_deque}
use borrow.Author.Tests.{tests}
use Rattle.st_event.specs.declared.event.Proposal.{Proposal}
use Rattle.st_store.specs.declared.pending.Pending.{Pending}
use Rattle.st_store.specs.Store.{StoreView}
use Rattle.st_store.proofs.QueueLaws.{waits_one}
use Rattle.st_store.proofs.store.Store.has_one_of.Goals as goal

pub returns : goal.returns
returns c =
    any_from_yields_List (λ (p : Pending). p.app.0 == c.args.app.0) _ _ c.any.result c.any.ensures.ran (YieldsList-from_deque c.self.inside.queue.items c.iter.ensures.rest) (λ x b q k. search (rules, tests))
    ∙ waits_one c.self.inside.queue.items c.args.app
    ∙ ap (λ (s : StoreView). list_any (λ (p : Proposal). p.app.0 == c.args.app.0) s.pending) c.self.view_is

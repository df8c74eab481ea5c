use Rattle.st_promise.proofs.IndexLaws.{entered_at, entered_links}
use Rattle.st_promise.proofs.flow_index.exchange.Goals as goal

pub take_out-requires : goal.take_out-requires
take_out-requires c =
    entered_links c.args.index.now.lists.items c.args.i c.in-Some.old.shares.items (entered_at c.args.index.now.lists.items c.args.flows.now.items c.args.i c.index.result.now c.in-Some.old c.requires.entered c.requires.ask c.index.ensures c.in-Some.is)

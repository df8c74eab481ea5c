use Rattle.std.proofs.Common.{inl, inr, ◌∙◌}
use Rattle.st_promise.proofs.BookLaws.{fields_of, flow_count, flow_small, kept_with, kept_without, lists_for}
use Rattle.st_promise.proofs.book.Book.keep.Goals as goal

pub of-requires : goal.of-requires
of-requires c = record {
  links = flow_count c.args.topo.now c.requires.sends.0 c.args.flow.now _ _ c.args.amount c.requires.sends.1;
  small = flow_small c.args.topo.now c.requires.sends.0 c.args.flow.now _ _ c.args.amount c.is_sound.ensures c.requires.sends.1;
}

pub exchange-requires-clause-links : goal.exchange-requires-clause-links
exchange-requires-clause-links c =
    let are = fields_of c.args.topo.now _ _ _ _ c.args.self.now c.self.view_is c.requires.book in
    lists_for c.args.topo.now _ _ _ _ c.in-Ok.kept.shares.items are c.self.invariant.lists_each c.in-Ok.ensures.in_range

pub invariant_of-self : goal.invariant_of-self
invariant_of-self c =
    let are = fields_of c.args.topo.now _ _ _ _ c.args.self.now c.self.view_is c.requires.book in
    record {
      flows = elim c.exchange.ensures.flows [
        | inl kept ↦ rw kept (kept_with c.args.topo.now _ _ _ _ c.requires.sends.0 c.args.flow.now c.args.i c.args.amount c.in-Ok.kept are c.self.invariant.flows c.requires.ask c.requires.sends.1 c.requires.enough c.in-Ok.ensures.sent c.in-Ok.ensures.in_range c.in-Ok.ensures.ends c.in-Ok.ensures.amounts)
        | inr none ↦ rw none (kept_without c.args.topo.now _ _ _ _ c.args.i are c.self.invariant.flows c.requires.ask)
      ];
      lists_each = c.exchange.ensures.count ∙ c.self.invariant.lists_each;
      entered = c.exchange.ensures.entered;
      failing = c.self.invariant.failing;
    }

use Rattle.std.proofs.Common.{◌≤◌, ◌∙◌, length, arith, sym}
use Rattle.std.proofs.lemmas.Bool.Decides.{nat_tests}
use Rattle.st_net.specs.Sets.{is_in}
use Rattle.st_net.specs.Promises.{need_of}
use Rattle.st_net.specs.Asks.{ask_of}
use Rattle.st_net.proofs.GroupLaws.{ask_at}
use Rattle.st_promise.proofs.KeptLaws.{left_holds}
use Rattle.st_promise.proofs.BookLaws.{fields_of, ask_read, need_read, flow_read, link_marked, heads_marked}
use Rattle.st_promise.proofs.book.Book.shows.Goals as goal

pub has-requires : goal.has-requires
has-requires c =
    let are = fields_of c.args.topo.now _ _ _ _ c.args.self.now c.self.view_is c.requires.book in
    let read = ask_read c.args.topo.now _ _ _ c.args.i c.index.result.now are c.requires.ask c.index.ensures in
    let ask = ask_at _ c.args.i c.is_sound.ensures c.requires.ask in
    rw read (omega (arith, ask.a_in, c.requires.marks.devices))

pub left-requires : goal.left-requires
left-requires c =
    let are = fields_of c.args.topo.now _ _ _ _ c.args.self.now c.self.view_is c.requires.book in
    let kept = flow_read c.args.topo.now _ _ _ _ c.args.i c.index-2.result.now c.in-Some.flow are c.self.invariant.flows c.requires.ask c.index-2.ensures c.in-Some.is in
    record {
      links = link_marked c.args.topo.now (ask_of c.args.topo.now c.args.i) (need_of c.args.topo.now (ask_of c.args.topo.now c.args.i)) (length c.args.up.now.links) c.in-Some.flow kept c.requires.marks.links;
      heads = heads_marked (length c.args.topo.now.devices) _ (length c.args.up.now.devices) c.in-Some.flow.shares.items kept.flow.in_range c.requires.marks.devices;
    }

pub returns-then-has : goal.returns-then-has
returns-then-has c = λ enough.
    let are = fields_of c.args.topo.now _ _ _ _ c.args.self.now c.self.view_is c.requires.book in
    let kept = flow_read c.args.topo.now _ _ _ _ c.args.i c.index-2.result.now c.in-Some.flow are c.self.invariant.flows c.requires.ask c.index-2.ensures c.in-Some.is in
    let need = need_read c.args.topo.now _ _ _ c.args.i c.index-then-has.result.now are c.self.invariant.flows.needs_each c.requires.ask c.index-then-has.ensures in
    let first = ask_read c.args.topo.now _ _ _ c.args.i c.index.result.now are c.requires.ask c.index.ensures in
    let ask = ask_at _ c.args.i c.is_sound.ensures c.requires.ask in
    let high : c.max.result ≤ c.left.result = grind (arith, nat_tests, enough) in
    left_holds c.args.topo.now (is_in c.args.up.now) (ask_of c.args.topo.now c.args.i) c.in-Some.flow c.index-then-has.result.now c.left.result c.is_sound.ensures ask kept.flow need c.left.ensures (omega (arith, high, c.max.ensures)) (rw first at (sym c.has.ensures ∙ c.if-has.true))

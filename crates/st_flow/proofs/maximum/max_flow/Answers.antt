use Rattle.std.proofs.Common.{rules, arith, ◌≡◌, ◌∙◌, length, pos, replicate, sym, ap, All}
use Rattle.std.proofs.Math.Seq.{take-append_seam}
use Rattle.std.proofs.lemmas.Int.{ints}
use Rattle.st_flow.specs.Network.{FitsEdge, IsEdge}
use Rattle.st_flow.specs.Residual.{turned}
use Rattle.st_flow.specs.Search.{mark_at}
use Rattle.st_flow.specs.declared.direction.Direction.TheVariants.{Against}
use Rattle.st_flow.proofs.Closed.{AllZip-length}
use Rattle.st_flow.proofs.Duality.{flow-le-cut}
use Rattle.st_flow.proofs.SearchLemmas.{IsApart-sym, level_cases}
use Rattle.st_flow.proofs.Rounds.{IsFlow-start, net_out-start, IsFlow-pushed, net_out-pushed, IsLeastCut-from}
use Rattle.st_flow.proofs.maximum.max_flow.Goals as goal

pub loop-sent-init : goal.loop-sent-init
loop-sent-init c =
    let es = c.g.inside.edges.items in
    let items : c.in_ok-amounts.amounts.items ≡ replicate (length es) (pos 0) = search rules in
    rw (← c.g.view_is, items) (record {
      flow = IsFlow-start (length c.g.inside.rows.items) es c.args.a c.args.b;
      amount = sym (net_out-start es c.args.a);
      near_nodes = search (arith, rules);
      far_nodes = search (arith, rules);
    })

pub meet-requires-clause-round : goal.meet-requires-clause-round
meet-requires-clause-round c =
    let fs = c.as_slice.result.now in
    let one = c.in_ok-begin.ensures in
    let two = c.in_ok-begin-2.ensures in
    let near = one.running c.args.g.now fs (sym c.loop-sent.invariant.near_nodes) in
    let far = two.running c.args.g.now (turned Against fs) (sym c.loop-sent.invariant.far_nodes) in
    record {
      along = near;
      against = far;
      apart = record {
        same_nodes = far.searching.search.has_nodes ∙ sym near.searching.search.has_nodes;
        apart = λ y got. level_cases (mark_at c.begin-in-loop-sent.new.self.marks.items y).level (λ none. none) (λ more. absurd (c.requires.apart (sym (one.alone y got) ∙ two.alone y more)));
      };
    }

pub returns-in-None-clause-least : goal.returns-in-None-clause-least
returns-in-None-clause-least c =
    let es = c.args.g.now.edges in
    let fs = c.loop-sent.amounts.items in
    let edges_fit : All (IsEdge c.args.g.now.nodes) es = rw (← c.g.view_is) c.g.invariant.edges_fit in
    let done = c.in_ok-meet.ensures in
    let near = c.meet.new.near in
    let far = c.meet.new.far in
    let near_start : near.start ≡ c.args.a = done.near.start ∙ c.in_ok-begin.ensures.start in
    let far_start : far.start ≡ c.args.b = done.far.start ∙ c.in_ok-begin-2.ensures.start in
    let search = rw (c.as_slice.ensures.value, near_start) at done.round.along.searching.search in
    let closed = rw (c.in-None.is, c.as_slice.ensures.value) at done.closed in
    let b_reached = rw far_start at done.round.against.searching.search.starts in
    let none = (IsApart-sym near.marks.items far.marks.items done.round.apart).apart c.args.b b_reached in
    let side = c.in_ok-side-in-None.ensures in
    let in_range = rw (c.as_slice-in-None.ensures.value, done.round.along.searching.search.has_nodes) at side.in_range in
    IsLeastCut-from c.args.g.now.nodes es fs c.args.a c.args.b _ c.loop-sent.sent near.marks.items c.in_ok-side-in-None.side.items
    edges_fit c.requires.a_in c.loop-sent.invariant.flow c.loop-sent.invariant.amount search closed none
    (rw c.as_slice-in-None.ensures.value at side.has) side.ascending in_range

pub loop-sent-preserved : goal.loop-sent-preserved
loop-sent-preserved c =
    let es = c.args.g.now.edges in
    let fs = c.loop-sent.amounts.items in
    let gs = c.push_across-more.new.amounts in
    let inv = c.loop-sent.invariant in
    let done = c.in_ok-meet.ensures in
    let near_start : c.meet.new.near.start ≡ c.args.a = done.near.start ∙ c.in_ok-begin.ensures.start in
    let far_start : c.meet.new.far.start ≡ c.args.b = done.far.start ∙ c.in_ok-begin-2.ensures.start in
    let moved = rw (far_start, near_start, c.as_mut_slice.ensures.value) at c.push_across-more.ensures.moved in
    let was = AllZip-length FitsEdge es fs inv.flow.fits in
    let is = AllZip-length FitsEdge es gs c.push_across-more.ensures.fits in
    let len : c.loop-sent.amounts.len ≡ length gs = omega (arith, was, is, c.as_mut_slice.ensures.len, ap length c.as_mut_slice.ensures.value) in
    rw (len, take-append_seam gs) (record {
      flow = IsFlow-pushed c.args.g.now.nodes es fs gs c.args.a c.args.b (pos c.push_across-more.result) inv.flow c.push_across-more.ensures.fits moved;
      amount = omega (arith, ints, inv.amount, c.from-sent.ensures, net_out-pushed es fs gs c.args.a c.args.b (pos c.push_across-more.result) c.requires.apart moved);
      near_nodes = done.round.along.searching.search.has_nodes;
      far_nodes = done.round.against.searching.search.has_nodes;
    })

pub returns-clause-amounts : goal.returns-clause-amounts
returns-clause-amounts c = AllZip-length FitsEdge c.args.g.now.edges c.loop-sent.amounts.items c.loop-sent.invariant.flow.fits

pub returns-clause-every_cut : goal.returns-clause-every_cut
returns-clause-every_cut c = λ s cut.
    let edges_fit : All (IsEdge c.args.g.now.nodes) c.args.g.now.edges = rw (← c.g.view_is) c.g.invariant.edges_fit in
    omega (
      arith,
      ints,
      flow-le-cut c.args.g.now.nodes c.args.g.now.edges c.loop-sent.amounts.items c.args.a c.args.b s edges_fit c.requires.a_in c.loop-sent.invariant.flow cut,
      c.loop-sent.invariant.amount,
      c.loop-sent-test.false,
    )

use Rattle.std.proofs.Common.{rules, arith, ◌≡◌, ◌∙◌, ◌≤ℤ◌, w64, FitsSigned, pos, ap, length, All}
use Rattle.std.proofs.lemmas.Int.{ints, to_z-of_z}
use Rattle.st_flow.specs.Network.{FitsEdge, IsEdge}
use Rattle.st_flow.specs.Residual.{room, pushed, edge_at, amount_at, no_edge}
use Rattle.st_flow.proofs.Closed.{AllZip-length, AllZip-at}
use Rattle.st_flow.proofs.Pushing.{AllZip-set, FitsEdge-pushed}
use Rattle.st_flow.proofs.Meetings.{IsTree-of, IsTree-kept, IsMeeting-kept, net_out-across}
use Rattle.st_flow.proofs.push.push_across.Goals as goal

pub slice_copy_out-room : goal.slice_copy_out-room
slice_copy_out-room c = omega (arith, c.requires.met.edge_in, AllZip-length FitsEdge c.args.g.now.edges c.args.amounts.now c.requires.fits)

pub room-room-requires-clause-fits : goal.room-room-requires-clause-fits
room-room-requires-clause-fits c =
    let same_edges : c.as_slice-edges.result.now ≡ c.args.g.now.edges = c.as_slice-edges.ensures.value ∙ ap (λ g. g.edges) c.g.view_is in
    let i = c.args.meeting.edge in
    let f : FitsSigned w64 (amount_at c.args.amounts.now i) = search rules in
    rw (to_z-of_z w64 (amount_at c.args.amounts.now i) f, same_edges) (AllZip-at FitsEdge c.args.g.now.edges c.args.amounts.now i no_edge (pos 0) c.requires.fits c.requires.met.edge_in)

pub push_back-requires-clause-edges_fit : goal.push_back-requires-clause-edges_fit
push_back-requires-clause-edges_fit c =
    let same_edges : c.as_slice-edges.result.now ≡ c.args.g.now.edges = c.as_slice-edges.ensures.value ∙ ap (λ g. g.edges) c.g.view_is in
    rw (same_edges, c.requires.round.along.searching.search.has_nodes, ← c.g.view_is) c.g.invariant.edges_fit

pub push_back-requires-clause-tree : goal.push_back-requires-clause-tree
push_back-requires-clause-tree c =
    let same_edges : c.as_slice-edges.result.now ≡ c.args.g.now.edges = c.as_slice-edges.ensures.value ∙ ap (λ g. g.edges) c.g.view_is in
    rw same_edges (IsTree-of _ c.args.g.now.edges c.args.amounts.now c.args.near.now.start _ c.args.near.now.marks.items c.requires.round.along.searching.search)

pub push_back-requires-2-clause-edges_fit : goal.push_back-requires-2-clause-edges_fit
push_back-requires-2-clause-edges_fit c =
    let same_edges : c.as_slice-edges.result.now ≡ c.args.g.now.edges = c.as_slice-edges.ensures.value ∙ ap (λ g. g.edges) c.g.view_is in
    rw (same_edges, c.requires.round.against.searching.search.has_nodes, ← c.g.view_is) c.g.invariant.edges_fit

pub push_back-requires-2-clause-tree : goal.push_back-requires-2-clause-tree
push_back-requires-2-clause-tree c =
    let same_edges : c.as_slice-edges.result.now ≡ c.args.g.now.edges = c.as_slice-edges.ensures.value ∙ ap (λ g. g.edges) c.g.view_is in
    let es = c.as_slice-edges.result.now in
    let near = c.args.near.now.marks.items in
    let far = c.args.far.now.marks.items in
    IsTree-kept es c.args.amounts.now c.push_back.new.amounts c.args.far.now.start near far
    (rw same_edges (IsTree-of _ c.args.g.now.edges _ c.args.far.now.start _ far c.requires.round.against.searching.search)) c.requires.round.apart c.push_back.ensures.kept

pub bounds-amounts-i : goal.bounds-amounts-i
bounds-amounts-i c =
    let same_edges : c.as_slice-edges.result.now ≡ c.args.g.now.edges = c.as_slice-edges.ensures.value ∙ ap (λ g. g.edges) c.g.view_is in
    omega (arith, c.requires.met.edge_in, ap length same_edges, AllZip-length FitsEdge c.as_slice-edges.result.now c.push_back-2.new.amounts c.push_back-2.ensures.fits)

pub pushed-requires-clause-fits : goal.pushed-requires-clause-fits
pushed-requires-clause-fits c =
    let same_edges : c.as_slice-edges.result.now ≡ c.args.g.now.edges = c.as_slice-edges.ensures.value ∙ ap (λ g. g.edges) c.g.view_is in
    let i = c.args.meeting.edge in
    let hs = c.push_back-2.new.amounts in
    let f : FitsSigned w64 (amount_at hs i) = search rules in
    rw (to_z-of_z w64 (amount_at hs i) f) (AllZip-at FitsEdge c.as_slice-edges.result.now hs i no_edge (pos 0) c.push_back-2.ensures.fits (rw same_edges c.requires.met.edge_in))

pub pushed-requires-clause-bounded : goal.pushed-requires-clause-bounded
pushed-requires-clause-bounded c =
    let same_edges : c.as_slice-edges.result.now ≡ c.args.g.now.edges = c.as_slice-edges.ensures.value ∙ ap (λ g. g.edges) c.g.view_is in
    let es = c.as_slice-edges.result.now in
    let edges_fit : All (IsEdge c.args.g.now.nodes) es = rw (same_edges, ← c.g.view_is) c.g.invariant.edges_fit in
    (edges_fit c.args.meeting.edge no_edge (rw same_edges c.requires.met.edge_in)).bounded

pub pushed-requires-clause-in_room : goal.pushed-requires-clause-in_room
pushed-requires-clause-in_room c =
    let same_edges : c.as_slice-edges.result.now ≡ c.args.g.now.edges = c.as_slice-edges.ensures.value ∙ ap (λ g. g.edges) c.g.view_is in
    let es = c.as_slice-edges.result.now in
    let i = c.args.meeting.edge in
    let fs = c.args.amounts.now in
    let hs = c.push_back-2.new.amounts in
    let edges_fit : All (IsEdge c.args.g.now.nodes) es = rw (same_edges, ← c.g.view_is) c.g.invariant.edges_fit in
    let met = rw (← same_edges) at c.requires.met in
    let same = IsMeeting-kept c.args.g.now.nodes es fs c.push_back.new.amounts hs c.args.near.now.marks.items c.args.far.now.marks.items i c.args.meeting.from edges_fit met c.requires.round.apart c.push_back.ensures.kept c.push_back-2.ensures.kept in
    let f : FitsSigned w64 (amount_at hs i) = search rules in
    let g : FitsSigned w64 (amount_at fs i) = search rules in
    let room_is = rw (to_z-of_z w64 (amount_at fs i) g) at c.room-room.ensures in
    let wide : pos c.min-more.result ≤ℤ room (edge_at es i) (amount_at fs i) c.other-y.result = omega (arith, ints, room_is, c.min.ensures, c.min-more.ensures) in
    rw (to_z-of_z w64 (amount_at hs i) f, same) wide

pub returns-clause-fits : goal.returns-clause-fits
returns-clause-fits c =
    let same_edges : c.as_slice-edges.result.now ≡ c.args.g.now.edges = c.as_slice-edges.ensures.value ∙ ap (λ g. g.edges) c.g.view_is in
    let i = c.args.meeting.edge in
    let es = c.as_slice-edges.result.now in
    let fs = c.args.amounts.now in
    let hs = c.push_back-2.new.amounts in
    let e = edge_at es i in
    let edges_fit : All (IsEdge c.args.g.now.nodes) es = rw (same_edges, ← c.g.view_is) c.g.invariant.edges_fit in
    let met = rw (← same_edges) at c.requires.met in
    let same = IsMeeting-kept c.args.g.now.nodes es fs c.push_back.new.amounts hs c.args.near.now.marks.items c.args.far.now.marks.items i c.args.meeting.from edges_fit met c.requires.round.apart c.push_back.ensures.kept c.push_back-2.ensures.kept in
    let f : FitsSigned w64 (amount_at hs i) = search rules in
    let g : FitsSigned w64 (amount_at fs i) = search rules in
    let h : FitsSigned w64 c.pushed.result = search rules in
    let room_is = rw (to_z-of_z w64 (amount_at fs i) g) at c.room-room.ensures in
    let is = rw (to_z-of_z w64 (amount_at hs i) f) at c.pushed.ensures in
    let wide : pos c.min-more.result ≤ℤ room e (amount_at fs i) c.other-y.result = omega (arith, ints, room_is, c.min.ensures, c.min-more.ensures) in
    rw (← same_edges, to_z-of_z w64 c.pushed.result h, is) (AllZip-set FitsEdge es hs i no_edge (pushed e (amount_at hs i) c.other-y.result (pos c.min-more.result)) c.push_back-2.ensures.fits
    (λ lt. FitsEdge-pushed e (amount_at hs i) (pos c.min-more.result) c.other-y.result (AllZip-at FitsEdge es hs i no_edge (pos 0) c.push_back-2.ensures.fits lt) (omega (arith, ints)) (rw same wide)))

pub returns-clause-moved : goal.returns-clause-moved
returns-clause-moved c = λ s.
    let same_edges : c.as_slice-edges.result.now ≡ c.args.g.now.edges = c.as_slice-edges.ensures.value ∙ ap (λ g. g.edges) c.g.view_is in
    let i = c.args.meeting.edge in
    let es = c.as_slice-edges.result.now in
    let hs = c.push_back-2.new.amounts in
    let edges_fit : All (IsEdge c.args.g.now.nodes) es = rw (same_edges, ← c.g.view_is) c.g.invariant.edges_fit in
    let met = rw (← same_edges) at c.requires.met in
    let f : FitsSigned w64 (amount_at hs i) = search rules in
    let g : FitsSigned w64 c.pushed.result = search rules in
    let is = rw (to_z-of_z w64 (amount_at hs i) f, c.other-y.ensures) at c.pushed.ensures in
    let far = rw c.other-y.ensures at (c.push_back-2.ensures.moved s) in
    rw (← same_edges, to_z-of_z w64 c.pushed.result g, is)
    (net_out-across c.args.g.now.nodes es c.args.amounts.now c.push_back.new.amounts hs i c.args.meeting.from c.args.near.now.start c.args.far.now.start c.min-more.result s
    edges_fit (AllZip-length FitsEdge es hs c.push_back-2.ensures.fits) met.edge_in met.is_end (c.push_back.ensures.moved s) far)

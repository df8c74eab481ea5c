use Rattle.std.proofs.Common.{rules, arith, ◌<◌, ◌≡◌, length, get_or, w64, FitsSigned, pos, ap, refl, ◌∙◌}
use Rattle.std.proofs.lemmas.List.{get_or_read}
use Rattle.std.proofs.lemmas.Int.{ints, to_z-of_z}
use Rattle.st_flow.specs.Network.{FitsEdge}
use Rattle.st_flow.specs.Residual.{turned, edge_at, amount_at, no_edge, other, room}
use Rattle.st_flow.specs.Search.{mark_at, no_mark}
use Rattle.st_flow.proofs.Closed.{AllZip-length, AllZip-at}
use Rattle.st_flow.proofs.Turned.{AllZip-turned, amount_at-turned}
use Rattle.st_flow.proofs.Rows.{row_at-read, IsRead-of}
use Rattle.st_flow.proofs.Pushing.{reached_in_range}
use Rattle.st_flow.proofs.SearchLemmas.{IsLooking, IsVisiting-start, IsVisiting-skip, IsVisiting-found, other_in, Grows-level, IsApart-found}
use Rattle.st_flow.proofs.Running.{IsVisiting-further, Runs-node, Runs-kept, Runs-next}
use Rattle.st_flow.proofs.search.Search.step.Goals as goal

pub bounds-rows-x : goal.bounds-rows-x
bounds-rows-x c =
    let s = c.args.self.now in
    let read = IsRead-of c.args.g.now c.g.inside.rows.items c.as_slice-rows.result.now c.g.inside.edges.items c.as_slice-edges.result.now c.g.invariant c.g.view_is c.as_slice-rows.ensures.value c.as_slice-edges.ensures.value in
    let at = get_or_read s.queue.items s.next c.index-x.result.now c.requires.waiting c.index-x.ensures 0 in
    let is = Runs-node c.args.g.now (turned c.args.direction c.args.amounts.now) s c.index-x.result.now c.requires.running c.requires.waiting at in
    omega (arith, reached_in_range s.marks.items c.index-x.result.now is, c.requires.running.searching.search.has_nodes, read.nodes)

pub index-requires : goal.index-requires
index-requires c =
    let s = c.args.self.now in
    let at = get_or_read s.queue.items s.next c.index-x.result.now c.requires.waiting c.index-x.ensures 0 in
    let is = Runs-node c.args.g.now (turned c.args.direction c.args.amounts.now) s c.index-x.result.now c.requires.running c.requires.waiting at in
    let lt : c.index-x.result.now < length s.marks.items = reached_in_range s.marks.items c.index-x.result.now is in
    search rules

pub loop-i-init : goal.loop-i-init
loop-i-init c =
    let s = c.args.self.now in
    let g = c.args.g.now in
    let d = c.args.direction in
    let x = c.index-x.result.now in
    let rows = c.as_slice-rows.result.now in
    let es = c.as_slice-edges.result.now in
    let fs = c.args.amounts.now in
    let read = IsRead-of g c.g.inside.rows.items rows c.g.inside.edges.items es c.g.invariant c.g.view_is c.as_slice-rows.ensures.value c.as_slice-edges.ensures.value in
    let at = get_or_read s.queue.items s.next x c.requires.waiting c.index-x.ensures 0 in
    let is = Runs-node g (turned d fs) s x c.requires.running c.requires.waiting at in
    let x_in : x < length rows = omega (arith, reached_in_range s.marks.items x is, c.requires.running.searching.search.has_nodes, read.nodes) in
    let row = rw (row_at-read rows x c.index-rows-x.result x_in c.index-rows-x.is) at (read.rows_fit x x_in) in
    let looking : IsLooking g es (turned d fs) s c.as_slice-row.result.now x = record {
      edges = read.edges;
      edges_fit = read.edges_fit;
      fits = AllZip-turned d es fs (rw read.edges c.requires.fits);
      few = read.few;
      rows = rw c.as_slice-row.ensures.value row;
      running = c.requires.running;
      waiting = c.requires.waiting;
      node = at;
      is_reached = is;
    } in
    record {
      start = refl;
      next = refl;
      looking = looking;
      visiting = IsVisiting-start g es (turned d fs) s c.as_slice-row.result.now x looking;
      apart = c.requires.apart;
    }

pub bounds-amounts-i : goal.bounds-amounts-i
bounds-amounts-i c =
    let looking = c.loop-i.invariant.looking in
    let at = looking.rows.fits c.loop-i.i-index 0 c.loop-i-test.true in
    omega (arith, at.0, ap length looking.edges, AllZip-length FitsEdge c.args.g.now.edges c.args.amounts.now c.requires.fits)

pub room_beyond-room-requires-clause-fits : goal.room_beyond-room-requires-clause-fits
room_beyond-room-requires-clause-fits c =
    let looking = c.loop-i.invariant.looking in
    let es = c.as_slice-edges.result.now in
    let i = get_or c.as_slice-row.result.now c.loop-i.i-index 0 in
    let at = looking.rows.fits c.loop-i.i-index 0 c.loop-i-test.true in
    let fits = AllZip-at FitsEdge es c.args.amounts.now i no_edge (pos 0) (rw looking.edges c.requires.fits) at.0 in
    let f : FitsSigned w64 (amount_at c.args.amounts.now i) = search rules in
    rw (to_z-of_z w64 (amount_at c.args.amounts.now i) f) fits

pub room_beyond-room-requires-clause-bounded : goal.room_beyond-room-requires-clause-bounded
room_beyond-room-requires-clause-bounded c =
    let looking = c.loop-i.invariant.looking in
    (looking.edges_fit _ no_edge (looking.rows.fits c.loop-i.i-index 0 c.loop-i-test.true).0).bounded

pub room_beyond-room-requires-clause-apart : goal.room_beyond-room-requires-clause-apart
room_beyond-room-requires-clause-apart c =
    let looking = c.loop-i.invariant.looking in
    (looking.edges_fit _ no_edge (looking.rows.fits c.loop-i.i-index 0 c.loop-i-test.true).0).apart

pub bounds-across-y : goal.bounds-across-y
bounds-across-y c =
    let inv = c.loop-i.invariant in
    let i = get_or c.as_slice-row.result.now c.loop-i.i-index 0 in
    let at = inv.looking.rows.fits c.loop-i.i-index 0 c.loop-i-test.true in
    omega (arith, other_in c.args.g.now.nodes (edge_at c.as_slice-edges.result.now i) c.index-x.result.now (inv.looking.edges_fit i no_edge at.0), c.other-y.ensures, inv.visiting.searching.search.has_nodes, inv.apart.same_nodes)

pub reach-requires-clause-y_in : goal.reach-requires-clause-y_in
reach-requires-clause-y_in c =
    let inv = c.loop-i.invariant in
    let i = get_or c.as_slice-row.result.now c.loop-i.i-index 0 in
    let at = inv.looking.rows.fits c.loop-i.i-index 0 c.loop-i-test.true in
    omega (arith, other_in c.args.g.now.nodes (edge_at c.as_slice-edges.result.now i) c.index-x.result.now (inv.looking.edges_fit i no_edge at.0), c.other-y.ensures, inv.visiting.searching.search.has_nodes)

pub reach-requires-clause-few : goal.reach-requires-clause-few
reach-requires-clause-few c = omega (arith, c.loop-i.invariant.looking.few, c.loop-i.invariant.visiting.searching.counted)

-- an edge to a node that was reached before
pub loop-i-preserved-then-index-gt0 : goal.loop-i-preserved-then-index-gt0
loop-i-preserved-then-index-gt0 c =
    let inv = c.loop-i.invariant in
    let es = c.as_slice-edges.result.now in
    let x = c.index-x.result.now in
    let marks = c.loop-i.self.marks.items in
    let i = get_or c.as_slice-row.result.now c.loop-i.i-index 0 in
    let at = inv.looking.rows.fits c.loop-i.i-index 0 c.loop-i-test.true in
    let y_in : c.other-y.result < length marks = omega (arith, other_in c.args.g.now.nodes (edge_at es i) x (inv.looking.edges_fit i no_edge at.0), inv.visiting.searching.search.has_nodes, c.other-y.ensures) in
    let mark = rw c.other-y.ensures at (get_or_read marks c.other-y.result c.index-in-loop-i.result.now y_in c.index-in-loop-i.ensures no_mark) in
    record {
      start = inv.start;
      next = inv.next;
      looking = inv.looking;
      visiting = IsVisiting-skip c.args.g.now es (turned c.args.direction c.args.amounts.now) c.args.self.now c.as_slice-row.result.now x c.loop-i.i-index marks c.loop-i.self.queue.items inv.visiting
          (λ end more. rw mark at c.if-index-gt0.true);
      apart = inv.apart;
    }

-- an edge without room
pub loop-i-preserved-then-room-eq0 : goal.loop-i-preserved-then-room-eq0
loop-i-preserved-then-room-eq0 c =
    let inv = c.loop-i.invariant in
    let es = c.as_slice-edges.result.now in
    let fs = c.args.amounts.now in
    let d = c.args.direction in
    let x = c.index-x.result.now in
    let i = get_or c.as_slice-row.result.now c.loop-i.i-index 0 in
    let f : FitsSigned w64 (amount_at fs i) = search rules in
    let room_is : pos c.room_beyond-room.result ≡ room (edge_at es i) (amount_at (turned d fs) i) (other (edge_at es i) x) = rw (amount_at-turned d fs i) (rw (to_z-of_z w64 (amount_at fs i) f) at c.room_beyond-room.ensures) in
    record {
      start = inv.start;
      next = inv.next;
      looking = inv.looking;
      visiting = IsVisiting-skip c.args.g.now es (turned d fs) c.args.self.now c.as_slice-row.result.now x c.loop-i.i-index c.loop-i.self.marks.items c.loop-i.self.queue.items inv.visiting
          (λ end more. absurd (omega (arith, ints, more, room_is, c.if-room-eq0.true)));
      apart = inv.apart;
    }

-- an edge to a node of the search across
pub returns-then-across-y-gt0-clause-on : goal.returns-then-across-y-gt0-clause-on
returns-then-across-y-gt0-clause-on c = let inv = c.loop-i.invariant in IsVisiting-further _ _ _ _ _ _ _ _ _ _ inv.start refl inv.visiting

pub returns-then-across-y-gt0-clause-running : goal.returns-then-across-y-gt0-clause-running
returns-then-across-y-gt0-clause-running c =
    let inv = c.loop-i.invariant in
    Runs-kept c.args.g.now c.as_slice-edges.result.now (turned c.args.direction c.args.amounts.now) c.args.self.now c.as_slice-row.result.now c.index-x.result.now c.loop-i.i-index c.loop-i.self.start c.loop-i.self.next
    c.loop-i.self.marks.items c.loop-i.self.queue.items inv.looking inv.visiting inv.start inv.next

pub returns-then-across-y-gt0-clause-met : goal.returns-then-across-y-gt0-clause-met
returns-then-across-y-gt0-clause-met c =
    let inv = c.loop-i.invariant in
    let s = c.args.self.now in
    let es = c.as_slice-edges.result.now in
    let fs = c.args.amounts.now in
    let d = c.args.direction in
    let x = c.index-x.result.now in
    let i = get_or c.as_slice-row.result.now c.loop-i.i-index 0 in
    let at = inv.looking.rows.fits c.loop-i.i-index 0 c.loop-i-test.true in
    let f : FitsSigned w64 (amount_at fs i) = search rules in
    let room_is : pos c.room_beyond-room.result ≡ room (edge_at es i) (amount_at (turned d fs) i) (other (edge_at es i) x) = rw (amount_at-turned d fs i) (rw (to_z-of_z w64 (amount_at fs i) f) at c.room_beyond-room.ensures) in
    rw (← inv.looking.edges) (record {
      edge_in = at.0;
      is_end = at.1;
      has_room = omega (arith, ints, room_is, c.if-room-eq0.false);
      is_reached = Grows-level s.marks.items c.loop-i.self.marks.items (length s.queue.items) x inv.visiting.grows inv.looking.is_reached;
      is_met = rw c.other-y.ensures at c.if-across-y-gt0.true;
    })

-- an edge to a new node
pub loop-i-preserved : goal.loop-i-preserved
loop-i-preserved c =
    let inv = c.loop-i.invariant in
    let s = c.args.self.now in
    let es = c.as_slice-edges.result.now in
    let fs = c.args.amounts.now in
    let d = c.args.direction in
    let x = c.index-x.result.now in
    let marks = c.loop-i.self.marks.items in
    let queue = c.loop-i.self.queue.items in
    let i = get_or c.as_slice-row.result.now c.loop-i.i-index 0 in
    let at = inv.looking.rows.fits c.loop-i.i-index 0 c.loop-i-test.true in
    let y = other (edge_at es i) x in
    let y_in : c.other-y.result < length marks = omega (arith, other_in c.args.g.now.nodes (edge_at es i) x (inv.looking.edges_fit i no_edge at.0), inv.visiting.searching.search.has_nodes, c.other-y.ensures) in
    let mark = rw c.other-y.ensures at (get_or_read marks c.other-y.result c.index-in-loop-i.result.now y_in c.index-in-loop-i.ensures no_mark) in
    let f : FitsSigned w64 (amount_at fs i) = search rules in
    let room_is : pos c.room_beyond-room.result ≡ room (edge_at es i) (amount_at (turned d fs) i) (other (edge_at es i) x) = rw (amount_at-turned d fs i) (rw (to_z-of_z w64 (amount_at fs i) f) at c.room_beyond-room.ensures) in
    let fresh : (mark_at marks y).level ≡ 0 = omega (arith, rw mark at c.if-index-gt0.false) in
    let x_mark = get_or_read s.marks.items x c.index.result.now (reached_in_range s.marks.items x inv.looking.is_reached) c.index.ensures no_mark in
    let found = IsVisiting-found c.args.g.now es (turned d fs) s c.as_slice-row.result.now x c.loop-i.i-index i c.min.result marks queue inv.looking inv.visiting refl at.0 at.1 fresh
    (omega (arith, inv.looking.running.searching.search.wide x inv.looking.is_reached, ap (λ m. m.width) x_mark, c.min.ensures, c.if-room-eq0.false))
    (omega (arith, ap (λ m. m.width) x_mark, c.min.ensures))
    (omega (arith, ints, room_is, c.min.ensures)) in
    let done = c.in_ok-reach.ensures in
    record {
      start = done.start ∙ inv.start;
      next = done.next ∙ inv.next;
      looking = inv.looking;
      visiting = rw (done.marks, done.queue, c.other-y.ensures) found;
      apart = IsApart-found marks c.args.across.now c.reach.new.self.marks.items c.other-y.result _ done.marks inv.apart (omega (arith, c.if-across-y-gt0.false));
    }

pub returns-clause-on : goal.returns-clause-on
returns-clause-on c = let inv = c.loop-i.invariant in IsVisiting-further _ _ _ _ _ _ _ _ _ _ inv.start refl inv.visiting

pub returns-clause-running : goal.returns-clause-running
returns-clause-running c =
    let inv = c.loop-i.invariant in
    Runs-next c.args.g.now c.as_slice-edges.result.now (turned c.args.direction c.args.amounts.now) c.args.self.now c.as_slice-row.result.now c.index-x.result.now c.loop-i.i-index c.loop-i.self.start c.loop-i.self.next
    c.loop-i.self.marks.items c.loop-i.self.queue.items inv.looking inv.visiting (omega (arith, c.loop-i-test.false)) inv.start inv.next

-- Where two searches meet.
use Rattle.std.proofs.Common.{◌≡◌, ℕ, ◌<◌, Bool, List, length, set, ℤ, pos, ◌+ℤ◌, neg_ℤ, arith, All, ap, sym, ◌∙◌, inl, inr}
use Rattle.std.proofs.lemmas.Int.{ints}
use Rattle.st_flow.specs.declared.direction.Direction.TheVariants.{Against}
use Rattle.st_flow.specs.declared.edge.Edge.{Edge}
use Rattle.st_flow.specs.declared.search.Mark.{Mark}
use Rattle.st_flow.specs.Network.{IsEdge, net_out}
use Rattle.st_flow.specs.Residual.{other, pushed, only_if, turned, IsEnd, no_edge, edge_at, amount_at}
use Rattle.st_flow.specs.Search.{mark_at, IsSearch, IsTree, IsOutside, IsApart, IsMeeting}
use Rattle.st_flow.proofs.SearchLemmas.{IsEnd-other, other-other, IsApart-sym}
use Rattle.st_flow.proofs.Turned.{amount_at-turned, room-against, net_out-against}
use Rattle.st_flow.proofs.Pushing.{part_out-pushed, net_out-set}

-- the same meeting, as the search from the other side sees it
pub IsMeeting-across : (nodes : ℕ) (es : List Edge) (fs : List ℤ) (far near : List Mark) (i y : ℕ) → All (IsEdge nodes) es → IsMeeting es (turned Against fs) far near i y →
    IsMeeting es fs near far i (other (edge_at es i) y)
IsMeeting-across nodes es fs far near i y edges is =
    let e = edge_at es i in
    let apart = (edges i no_edge is.edge_in).apart in
    let back = other-other e y apart is.is_end in
    let more = rw (amount_at-turned Against fs i, room-against e (amount_at fs i) y apart is.is_end) at is.has_room in
    record {
      edge_in = is.edge_in;
      is_end = IsEnd-other e y;
      has_room = rw back more;
      is_reached = is.is_met;
      is_met = rw back is.is_reached;
    }

pub IsTree-of : (nodes : ℕ) (es : List Edge) (fs : List ℤ) (a limit : ℕ) (marks : List Mark) → IsSearch nodes es fs a limit marks → IsTree es fs a marks
IsTree-of nodes es fs a limit marks is = record { starts = is.starts; steps = is.steps }

-- an edge with an end that was not reached
pub IsOutside-at : (es : List Edge) (marks : List Mark) (i y : ℕ) → IsEnd (edge_at es i) y → (mark_at marks y).level ≡ 0 → IsOutside es marks i
IsOutside-at es marks i y end none = elim end [ inl at_u ↦ inl (rw at_u none) | inr at_v ↦ inr (rw at_v none) ]

-- the ways of the search across are as they were once the edges of the nodes of the one search have changed
pub IsTree-kept : (es : List Edge) (fs gs : List ℤ) (b : ℕ) (near far : List Mark) → IsTree es (turned Against fs) b far → IsApart near far →
    ((i : ℕ) → IsOutside es near i → amount_at gs i ≡ amount_at fs i) → IsTree es (turned Against gs) b far
IsTree-kept es fs gs b near far is apart kept = record {
  starts = is.starts;
  steps = λ y more not_b.
      let step = is.steps y more not_b in
      let i = (mark_at far y).edge in
      let same = kept i (IsOutside-at es near i y step.is_end ((IsApart-sym near far apart).apart y more)) in
      let turned_same : amount_at (turned Against gs) i ≡ amount_at (turned Against fs) i = amount_at-turned Against gs i ∙ (ap neg_ℤ same ∙ sym (amount_at-turned Against fs i)) in
      record {
        edge_in = step.edge_in;
        is_end = step.is_end;
        has_room = rw turned_same step.has_room;
        narrows = step.narrows;
        from_reached = step.from_reached;
        falls = step.falls;
      };
}

-- the edge where two searches meet is on neither of their ways
pub IsMeeting-kept : (nodes : ℕ) (es : List Edge) (fs gs hs : List ℤ) (near far : List Mark) (i x : ℕ) → All (IsEdge nodes) es → IsMeeting es fs near far i x → IsApart near far →
    ((k : ℕ) → IsOutside es near k → amount_at gs k ≡ amount_at fs k) → ((k : ℕ) → IsOutside es far k → amount_at hs k ≡ amount_at gs k) → amount_at hs i ≡ amount_at fs i
IsMeeting-kept nodes es fs gs hs near far i x edges is apart near_kept far_kept =
    let y = other (edge_at es i) x in
    far_kept i (IsOutside-at es far i x is.is_end (apart.apart x is.is_reached)) ∙ near_kept i (IsOutside-at es near i y (IsEnd-other (edge_at es i) x) ((IsApart-sym near far apart).apart y is.is_met))

-- three pushes make one: from a to x, from x over edge i, and on to b
pub net_out-across : (nodes : ℕ) (es : List Edge) (fs gs hs : List ℤ) (i x a b more : ℕ) (s : ℕ → Bool) → All (IsEdge nodes) es → length hs ≡ length es → i < length es → IsEnd (edge_at es i) x →
    net_out es gs s +ℤ only_if (s x) (pos more) ≡ net_out es fs s +ℤ only_if (s a) (pos more) →
    net_out es (turned Against hs) s +ℤ only_if (s (other (edge_at es i) x)) (pos more) ≡ net_out es (turned Against gs) s +ℤ only_if (s b) (pos more) →
    net_out es (set hs i (pushed (edge_at es i) (amount_at hs i) (other (edge_at es i) x) (pos more))) s +ℤ only_if (s b) (pos more) ≡ net_out es fs s +ℤ only_if (s a) (pos more)
net_out-across nodes es fs gs hs i x a b more s edges same i_in end near far =
    let e = edge_at es i in
    let y = other e x in
    let back = other-other e x (edges i no_edge i_in).apart end in
    let over = rw back at (part_out-pushed e (amount_at hs i) (pos more) y s (IsEnd-other e x)) in
    let write = net_out-set es hs i (pushed e (amount_at hs i) y (pos more)) s same i_in in
    let gs_is = net_out-against es gs s in
    let hs_is = net_out-against es hs s in
    omega (arith, ints, near, far, over, write, gs_is, hs_is)

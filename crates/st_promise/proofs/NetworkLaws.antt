-- The network of what is up: how it is made, link by link, and that its cuts are those of the group.
use Rattle.std.proofs.Common.{◌≡◌, ℕ, zero, suc, ◌+◌, ◌*◌, ◌<◌, ◌≤◌, List, [], ◌∷◌, ◌++◌, length, drop, refl, ap, ◌∙◌, sym, arith, length-append, append_assoc}
use Rattle.std.specs.Prelude.{Bool, true, false, ◌&&◌, not, slice_index_or, if◌then◌else◌}
use Rattle.std.proofs.lemmas.List.{append-nil}
use Rattle.std.proofs.lemmas.List.Sums.{sum_by-cons}
use Rattle.st_net.specs.declared.entity.Entity.{Entity}
use Rattle.st_net.specs.declared.topo.LinkOpening.{LinkOpening}
use Rattle.st_net.specs.Groups.{Group, no_link, IsLink, AreLinks}
use Rattle.st_net.specs.UpGraph.{is_up_link}
use Rattle.st_net.specs.Cuts.{is_crossing, cut_value_from}
use Rattle.st_flow.specs.declared.edge.Edge.{Edge}
use Rattle.st_flow.specs.Network.{Network, IsEdge, cut_part, cut_value as edge_cut_value}
use Rattle.st_promise.specs.UpNetwork.{edge_of, up_edges, up_network}

-- a link of a group is an edge of its network
pub edge_is : (n nodes u v capacity : ℕ) (link : LinkOpening) → nodes ≡ n → u ≡ link.a → v ≡ link.b → capacity ≤ link.capacity → IsLink n link → IsEdge nodes (record { u = u; v = v; capacity = capacity })
edge_is n nodes u v capacity link same at_a at_b low link_is = rw (same, at_a, at_b) (record {
  u_in = link_is.a_in;
  v_in = link_is.b_in;
  apart = link_is.apart;
  bounded = omega (arith, low, link_is.bounded);
})

-- the network of the first m links
pub record IsMadeTo (g : Group) (up : Entity → Bool) (m : ℕ) (net : Network) : Type 0 where
  pub nodes : net.nodes ≡ length g.devices
  pub count : length net.edges ≡ m
  pub edges : net.edges ++ up_edges m (drop m g.links) up ≡ up_edges 0 g.links up

drop_at : (links : List LinkOpening) (m : ℕ) → m < length links → drop m links ≡ slice_index_or links m no_link ∷ drop (m + 1) links
drop_at [] m low = absurd (omega arith)
drop_at (link ∷ links) zero low = refl
drop_at (link ∷ links) (suc m) low = let next : suc m + 1 ≡ suc (m + 1) = omega arith in rw next (drop_at links m (omega arith))

drop_all : (links : List LinkOpening) → drop (length links) links ≡ []
drop_all [] = refl
drop_all (link ∷ links) = drop_all links

pub made_none : (g : Group) (up : Entity → Bool) (n : ℕ) (net : Network) → n ≡ length g.devices → net ≡ record { nodes = n; edges = [] } → IsMadeTo g up 0 net
made_none g up n net same is = rw is (record { nodes = same; count = refl; edges = refl })

-- with the next link
pub made_with : (g : Group) (up : Entity → Bool) (m : ℕ) (net new : Network) → IsMadeTo g up m net → m < length g.links → new ≡ record net { edges = net.edges ++ edge_of (is_up_link up m (slice_index_or g.links m no_link)) (slice_index_or g.links m no_link) ∷ [] } → IsMadeTo g up (m + 1) new
made_with g up m net new made low same = rw same (record {
  nodes = made.nodes;
  count = (let count = length-append net.edges (edge_of (is_up_link up m (slice_index_or g.links m no_link)) (slice_index_or g.links m no_link) ∷ []) in omega (arith, count, made.count));
  edges = append_assoc net.edges (edge_of (is_up_link up m (slice_index_or g.links m no_link)) (slice_index_or g.links m no_link) ∷ []) (up_edges (m + 1) (drop (m + 1) g.links) up)
      ∙ ap (λ (es : List Edge). net.edges ++ es) (ap (λ (links : List LinkOpening). up_edges m links up) (sym (drop_at g.links m low)))
      ∙ made.edges;
})

network_is : (net : Network) (n : ℕ) (es : List Edge) → net.nodes ≡ n → net.edges ≡ es → net ≡ record { nodes = n; edges = es }
network_is net n es nodes edges = rw (← nodes, ← edges) refl

-- of all links it is the whole network
pub made_all : (g : Group) (up : Entity → Bool) (m : ℕ) (net : Network) → IsMadeTo g up m net → m ≡ length g.links → net ≡ up_network g up
made_all g up m net made same =
    let rest : up_edges m (drop m g.links) up ≡ [] = rw (same, drop_all g.links) refl in
    network_is net (length g.devices) (up_edges 0 g.links up) made.nodes (sym (ap (λ (es : List Edge). net.edges ++ es) rest ∙ append-nil net.edges) ∙ made.edges)

-- a link counts in a cut as its edge does
part_at : (u p q : Bool) (m : ℕ) → (if u && (if p then not q else q) then m else 0) ≡ (if p then (if q then 0 else (if u then m else 0)) else (if q then (if u then m else 0) else 0))
part_at true true true m = refl
part_at true true false m = refl
part_at true false true m = refl
part_at true false false m = refl
part_at false true true m = refl
part_at false true false m = refl
part_at false false true m = refl
part_at false false false m = refl

cut_first : (u : Bool) (link : LinkOpening) (rest : ℕ) (es : List Edge) (s : ℕ → Bool) → rest ≡ edge_cut_value es s → (if u && is_crossing s link then link.capacity else 0) + rest ≡ edge_cut_value (edge_of u link ∷ es) s
cut_first u link rest es s same =
    let part : (if u && is_crossing s link then link.capacity else 0) ≡ cut_part s (edge_of u link) = part_at u (s link.a) (s link.b) link.capacity in
    rw (part, same) (sym (sum_by-cons (cut_part s) (edge_of u link) es))

-- a cut has in the group the value that it has in the network
pub cut_same : (i : ℕ) (links : List LinkOpening) (up : Entity → Bool) (s : ℕ → Bool) → cut_value_from i links up s ≡ edge_cut_value (up_edges i links up) s
cut_same i [] up s = refl
cut_same i (link ∷ links) up s = cut_first (is_up_link up i link) link (cut_value_from (i + 1) links up s) (up_edges (i + 1) links up) s (cut_same (i + 1) links up s)

part_low : (p : Bool) (m : ℕ) → m ≤ 1000000 → (if p then m else 0) ≤ 1000000
part_low true m low = low
part_low false m low = omega arith

-- no cut has more than all capacities
pub cut_low : (i n : ℕ) (links : List LinkOpening) (up : Entity → Bool) (s : ℕ → Bool) → AreLinks n links → cut_value_from i links up s ≤ 1000000 * length links
cut_low i n [] up s are = omega arith
cut_low i n (link ∷ links) up s are =
    let part = part_low (is_up_link up i link && is_crossing s link) link.capacity are.0.bounded in
    let rest = cut_low (i + 1) n links up s are.1 in
    omega (arith, part, rest)

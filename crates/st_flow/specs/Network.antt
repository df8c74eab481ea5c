-- Flows and cuts of an undirected network.
use Rattle.std.specs.Prelude.{◌≡◌, ◌≢◌, ℕ, ◌<◌, ◌≤◌, ◌==◌, Bool, true, false, if◌then◌else◌, List, [], ◌∷◌, All, sum_by, ℤ, pos, ◌+ℤ◌, ◌-ℤ◌, ◌≤ℤ◌, neg_ℤ}
use Rattle.std.specs.List.{AllZip, list_any}
use Rattle.std.specs.List.Sorted.{IsStrictlyIncreasing}
use Rattle.st_flow.specs.declared.edge.Edge.{Edge}

-- an edge of a network of so many nodes; one of capacity 0 carries nothing, and no cut counts it
pub record IsEdge (nodes : ℕ) (e : Edge) : Type 0 where
  pub u_in : e.u < nodes
  pub v_in : e.v < nodes
  pub apart : e.u ≢ e.v
  pub bounded : e.capacity ≤ 1000000

-- what an edge that carries `f` from u to v takes out of a set of nodes: `f` where only u is in it, and minus `f` where only v is
abbrev pub part_out : Edge → ℤ → (ℕ → Bool) → ℤ
part_out e f s = (if s e.u then f else pos 0) -ℤ (if s e.v then f else pos 0)

-- what leaves a set of nodes, less what enters it
abbrev pub net_out : List Edge → List ℤ → (ℕ → Bool) → ℤ
net_out [] fs s = pos 0
net_out (e ∷ es) [] s = pos 0
net_out (e ∷ es) (f ∷ fs) s = part_out e f s +ℤ net_out es fs s

-- what leaves a node, less what enters it
abbrev pub net_out_of : List Edge → List ℤ → ℕ → ℤ
net_out_of es fs x = net_out es fs (λ y. y == x)

-- an amount that is no larger than the edge's capacity, either way
pub record FitsEdge (e : Edge) (f : ℤ) : Type 0 where
  pub low : neg_ℤ (pos e.capacity) ≤ℤ f
  pub high : f ≤ℤ pos e.capacity

-- a flow from a to b: one amount for each edge, none larger than its capacity, and at each other node as much enters as leaves
pub record IsFlow (nodes : ℕ) (es : List Edge) (fs : List ℤ) (a b : ℕ) : Type 0 where
  pub fits : AllZip FitsEdge es fs
  pub conserved : (x : ℕ) → x < nodes → x ≢ a → x ≢ b → net_out_of es fs x ≡ pos 0

-- a cut of a and b: a set of nodes with a and without b
pub record IsCut (s : ℕ → Bool) (a b : ℕ) : Type 0 where
  pub inside : s a ≡ true
  pub outside : s b ≡ false

-- the capacity of an edge with exactly one end in the set
abbrev pub cut_part : (ℕ → Bool) → Edge → ℕ
cut_part s e = if s e.u then (if s e.v then 0 else e.capacity) else (if s e.v then e.capacity else 0)

-- the value of a cut: the capacities of the edges with exactly one end in it, added up
abbrev pub cut_value : List Edge → (ℕ → Bool) → ℕ
cut_value es s = sum_by (cut_part s) es

-- whether a list has a node
abbrev pub has : List ℕ → ℕ → Bool
has side x = list_any (λ y. y == x) side

-- a network: its number of nodes, and its edges
pub record Network : Type 0 where
  pub nodes : ℕ
  pub edges : List Edge

-- a flow from a to b of at least `need`
pub record Sends (g : Network) (fs : List ℤ) (a b need : ℕ) : Type 0 where
  pub flow : IsFlow g.nodes g.edges fs a b
  pub enough : pos need ≤ℤ net_out_of g.edges fs a

-- the least value of a cut of a and b, and the least side: the cut of that value that each cut of that value contains
pub record IsLeastCut (g : Network) (a b value : ℕ) (side : List ℕ) : Type 0 where
  pub is_cut : IsCut (has side) a b
  pub value_is : cut_value g.edges (has side) ≡ value
  pub least : (s : ℕ → Bool) → IsCut s a b → value ≤ cut_value g.edges s
  pub inmost : (s : ℕ → Bool) → IsCut s a b → cut_value g.edges s ≡ value → All (λ x. s x ≡ true) side
  pub ascending : IsStrictlyIncreasing side
  pub in_range : All (λ x. x < g.nodes) side

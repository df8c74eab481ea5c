-- Inside: the rows of a network, which are the edges at each node. No public clause speaks of them.
use Rattle.std.specs.Prelude.{◌≡◌, ℕ, zero, suc, [], ◌∷◌, ◌<◌, ◌≤◌, ◌==◌, List, length, All, Contains, Vec, ℤ, pos, ◌+ℤ◌}
use Rattle.std.specs.declared.alloc.Global.{Global}
use Rattle.st_flow.specs.declared.edge.Edge.{Edge}
use Rattle.st_flow.specs.Network.{IsEdge, part_out, net_out_of}
use Rattle.st_flow.specs.Residual.{IsEnd, edge_at, amount_at}

-- what the edges with these numbers take out of the node x
abbrev pub row_out : List Edge → List ℤ → ℕ → List ℕ → ℤ
row_out es fs x [] = pos 0
row_out es fs x (i ∷ row) = part_out (edge_at es i) (amount_at fs i) (λ y. y == x) +ℤ row_out es fs x row

-- the edges at the node x, by their numbers, each once
pub record IsRow (es : List Edge) (x : ℕ) (row : List ℕ) : Type 0 where
  pub fits : All (λ i. (i < length es) × IsEnd (edge_at es i) x) row
  pub complete : (i : ℕ) → i < length es → IsEnd (edge_at es i) x → Contains row i
  pub short : length row ≤ length es
  pub sums : (fs : List ℤ) → length fs ≡ length es → row_out es fs x row ≡ net_out_of es fs x

-- the row of the node x
abbrev pub row_at : List (Vec ℕ Global) → ℕ → List ℕ
row_at [] x = []
row_at (row ∷ rows) zero = row.items
row_at (row ∷ rows) (suc x) = row_at rows x

-- the edges at each node
abbrev pub AreRows : List Edge → List (Vec ℕ Global) → Type 0
AreRows es rows = (x : ℕ) → x < length rows → IsRow es x (row_at rows x)

-- a network as the code keeps it
pub record IsGraph (rows : List (Vec ℕ Global)) (es : List Edge) : Type 0 where
  pub few_nodes : length rows ≤ 512
  pub few_edges : length es ≤ 4096
  pub edges_fit : All (IsEdge (length rows)) es
  pub rows_fit : AreRows es rows

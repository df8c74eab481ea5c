-- The network of what is up, as flows see it: the devices are its nodes, and the links its edges, each under its own number.
use Rattle.std.specs.Prelude.{◌≡◌, ℕ, ◌+◌, Bool, true, List, [], ◌∷◌, length, if◌then◌else◌}
use Rattle.st_net.specs.declared.entity.Entity.{Entity}
use Rattle.st_net.specs.declared.topo.LinkOpening.{LinkOpening}
use Rattle.st_net.specs.declared.promise.Promise.{Promise}
use Rattle.st_net.specs.Groups.{Group}
use Rattle.st_net.specs.UpGraph.{is_up_link}
use Rattle.st_net.specs.Cuts.{least_cut, is_in_least_side, numbers_in}
use Rattle.st_flow.specs.declared.edge.Edge.{Edge}
use Rattle.st_flow.specs.declared.cut.Cut.{Cut}
use Rattle.st_flow.specs.Network.{Network}

-- a link as an edge between its ends, which carries nothing where the link is down
abbrev pub edge_of : Bool → LinkOpening → Edge
edge_of up link = record { u = link.a; v = link.b; capacity = if up then link.capacity else 0 }

-- the links as edges, of links that are numbered from i
abbrev pub up_edges : ℕ → List LinkOpening → (Entity → Bool) → List Edge
up_edges i [] up = []
up_edges i (link ∷ links) up = edge_of (is_up_link up i link) link ∷ up_edges (i + 1) links up

-- the network of the up graph
abbrev pub up_network : Group → (Entity → Bool) → Network
up_network g up = record { nodes = length g.devices; edges = up_edges 0 g.links up }

-- the least value of a cut of two devices with everything up
abbrev pub baseline_of : Group → ℕ → ℕ → ℕ
baseline_of g a b = least_cut (length g.devices) g.links (λ e. true) a b

-- the least cut of a pair, with the least side
pub record IsLeastCutOf (g : Group) (up : Entity → Bool) (p : Promise) (cut : Cut) : Type 0 where
  pub value : cut.value ≡ least_cut (length g.devices) g.links up p.a p.b
  pub side : cut.side.items ≡ numbers_in (length g.devices) (is_in_least_side (length g.devices) g.links up p.a p.b)

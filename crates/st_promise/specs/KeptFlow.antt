-- A flow that is kept by the links that carry it, and how much of it is left where entities go down.
use Rattle.std.specs.Prelude.{◌≡◌, ℕ, ◌+◌, ◌<◌, ◌≤◌, ◌==◌, ◌&&◌, max, Bool, if◌then◌else◌, List, [], ◌∷◌, length, All, sum_by, slice_index_or, Option, None, IfSome, ℤ, pos, neg_ℤ, ◌≤ℤ◌, ◌⊎◌}
use Rattle.st_net.specs.declared.entity.Entity.{Entity}
use Rattle.st_net.specs.declared.entity.Entity.TheVariants.{Device, Link}
use Rattle.st_net.specs.declared.promise.Promise.{Promise}
use Rattle.st_net.specs.Groups.{no_promise}
use Rattle.st_flow.specs.declared.edge.Edge.{Edge}
use Rattle.st_flow.specs.Network.{Network, Sends}
use Rattle.st_flow.specs.Residual.{no_edge}
use Rattle.st_promise.specs.declared.kept_flow.Share.{Share}
use Rattle.st_promise.specs.declared.kept_flow.KeptFlow.{KeptFlow}

-- what an edge carries from u to v by a share of it
abbrev pub amount_of : Edge → Share → ℤ
amount_of e s = if e.v == s.head then pos s.amount else (if e.u == s.head then neg_ℤ (pos s.amount) else pos 0)

-- no more than a link can carry, either way
pub record IsSmall (f : ℤ) : Type 0 where
  pub low : neg_ℤ (pos 1000000) ≤ℤ f
  pub high : f ≤ℤ pos 1000000

-- a share of link i, which carries so much from its first end to its second
pub record IsShareOf (i : ℕ) (e : Edge) (f : ℤ) (s : Share) : Type 0 where
  pub link : s.link ≡ i
  pub end : (s.head ≡ e.u) ⊎ (s.head ≡ e.v)
  pub amount : amount_of e s ≡ f

-- the amount of each edge, of edges that are numbered from i: that of its share, and 0 where it has none
abbrev pub amounts_from : ℕ → List Edge → List Share → List ℤ
amounts_from i [] shares = []
amounts_from i (e ∷ es) [] = pos 0 ∷ amounts_from (i + 1) es []
amounts_from i (e ∷ es) (s ∷ shares) = if s.link == i then amount_of e s ∷ amounts_from (i + 1) es shares else pos 0 ∷ amounts_from (i + 1) es (s ∷ shares)

-- the share leads to an end of its link
abbrev pub IsEndIn : List Edge → Share → Type 0
IsEndIn es s = (s.head ≡ (slice_index_or es s.link no_edge).u) ⊎ (s.head ≡ (slice_index_or es s.link no_edge).v)

-- a flow of the network, of which the shares tell what each edge carries, from a to b, of at least what it sends
pub record IsKeptFlow (net : Network) (a b : ℕ) (k : KeptFlow) : Type 0 where
  pub in_range : All (λ s. (s.link < length net.edges) × (s.head < net.nodes)) k.shares.items
  pub ends : All (IsEndIn net.edges) k.shares.items
  pub sends : Sends net (amounts_from 0 net.edges k.shares.items) a b k.sent

-- what a share loses: all of it where the link is down or the device that it leads to
abbrev pub lost_share : (Entity → Bool) → Share → ℕ
lost_share up s = if up (Link s.link) && up (Device s.head) then 0 else s.amount

abbrev pub lost : (Entity → Bool) → List Share → ℕ
lost up shares = sum_by (lost_share up) shares

-- a kept flow that is enough for an ask of this need, and shows a walk
pub record IsEnough (net : Network) (p : Promise) (need : ℕ) (k : KeptFlow) : Type 0 where
  pub flow : IsKeptFlow net p.a p.b k
  pub enough : max need 1 ≤ k.sent

-- for each of these asks its need, and a flow that is enough for it or none
pub record AreKeptFlows (net : Network) (pairs : List Promise) (needs : List ℕ) (flows : List (Option KeptFlow)) : Type 0 where
  pub needs_each : length needs ≡ length pairs
  pub flows_each : length flows ≡ length pairs
  pub each : (i : ℕ) → i < length pairs → IfSome (slice_index_or flows i None) (IsEnough net (slice_index_or pairs i no_promise) (slice_index_or needs i 0))

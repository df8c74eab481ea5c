-- The up graph of a set of entities: its links and its walks.
use Rattle.std.specs.Prelude.{◌≡◌, ℕ, ◌<◌, Bool, true, ◌&&◌, ◌||◌, ◌==◌, List, [], ◌∷◌, length, slice_index_or}
use Rattle.st_net.specs.declared.entity.Entity.{Entity}
use Rattle.st_net.specs.declared.entity.Entity.TheVariants.{Device, Link}
use Rattle.st_net.specs.declared.topo.LinkOpening.{LinkOpening}
use Rattle.st_net.specs.Groups.{no_link}

-- the link is up, with both its ends
abbrev pub is_up_link : (Entity → Bool) → ℕ → LinkOpening → Bool
is_up_link up i link = up (Link i) && up (Device link.a) && up (Device link.b)

-- the link has these two ends, in either order
abbrev pub is_joint : ℕ → ℕ → LinkOpening → Bool
is_joint from to link = (link.a == from && link.b == to) || (link.a == to && link.b == from)

-- link i leads from a device to another
pub record Leads (links : List LinkOpening) (up : Entity → Bool) (i from to : ℕ) : Type 0 where
  pub within : i < length links
  pub is_up : is_up_link up i (slice_index_or links i no_link) ≡ true
  pub ends : is_joint from to (slice_index_or links i no_link) ≡ true

-- these links, one after another, lead from a to b
abbrev pub IsWalk : List LinkOpening → (Entity → Bool) → ℕ → List ℕ → ℕ → Type 0
IsWalk links up a [] b = a ≡ b
IsWalk links up a (i ∷ walk) b = (mid : ℕ) × Leads links up i a mid × IsWalk links up mid walk b

-- What is said of two devices: a walk from one to the other, or a set that no up link leaves.
use Rattle.std.specs.Prelude.{◌≡◌, ℕ, ◌==◌, Bool, true, List}
use Rattle.std.specs.List.{list_any}
use Rattle.st_net.specs.declared.entity.Entity.{Entity}
use Rattle.st_net.specs.Groups.{Group}
use Rattle.st_net.specs.UpGraph.{Leads, IsWalk}
use Rattle.st_net.specs.Cuts.{IsCut}
use Rattle.st_promise.specs.declared.reaching.Reached.{Reached}
use Rattle.st_promise.specs.declared.reaching.Reached.TheVariants.{Walk as walk_found, Closed as set_closed}

-- whether a list has a number
abbrev pub is_member : List ℕ → ℕ → Bool
is_member side d = list_any (λ x. x == d) side

-- a set with a and without b that no up link leaves, and to each of whose devices a walk leads from a
pub record IsClosed (g : Group) (up : Entity → Bool) (a b : ℕ) (side : List ℕ) : Type 0 where
  pub parts : IsCut (is_member side) a b
  pub stays : (i from to : ℕ) → Leads g.links up i from to → is_member side from ≡ true → is_member side to ≡ true
  pub reached : (d : ℕ) → is_member side d ≡ true → (walk : List ℕ) × IsWalk g.links up a walk d

-- a walk from a to b, or such a set
abbrev pub IsReached : Group → (Entity → Bool) → ℕ → ℕ → Reached → Type 0
IsReached g up a b (walk_found walk) = IsWalk g.links up a walk b
IsReached g up a b (set_closed side) = IsClosed g up a b side

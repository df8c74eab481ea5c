-- The index from links to asks: for each link the asks whose kept flow it carries.
use Rattle.std.specs.Prelude.{◌≡◌, ℕ, ◌<◌, Bool, true, List, length, All, Vec, slice_index_or, Option, None, IfSome}
use Rattle.std.specs.declared.alloc.Global.{Global}
use Rattle.st_net.specs.declared.entity.Entity.{Entity}
use Rattle.st_net.specs.Groups.{Group, no_link}
use Rattle.st_net.specs.UpGraph.{is_up_link}
use Rattle.st_flow.specs.Rows.{row_at}
use Rattle.st_promise.specs.declared.kept_flow.Share.{Share}
use Rattle.st_promise.specs.declared.kept_flow.KeptFlow.{KeptFlow}
use Rattle.st_promise.specs.Reach.{is_member}

-- ask number i stands in the list of the share's link
abbrev pub IsEntered : List (Vec ℕ Global) → ℕ → Share → Type 0
IsEntered lists i s = is_member (row_at lists s.link) i ≡ true

-- each ask stands in the lists of all links that its kept flow goes over
abbrev pub AreEntered : List (Vec ℕ Global) → List (Option KeptFlow) → Type 0
AreEntered lists flows = (i : ℕ) → IfSome (slice_index_or flows i None) (λ k. All (IsEntered lists i) k.shares.items)

-- each link in whose list ask number i stands is up, with both its ends
abbrev pub AreUntouched : Group → (Entity → Bool) → List (Vec ℕ Global) → ℕ → Type 0
AreUntouched g up lists i = (link : ℕ) → link < length g.links → is_member (row_at lists link) i ≡ true → is_up_link up link (slice_index_or g.links link no_link) ≡ true

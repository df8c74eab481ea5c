-- The rows that were merged last, as contracts see them.
use Rattle.std.specs.Prelude.{◌≡◌, ◌≤◌, ℕ, ◌+◌, nat_le, if◌then◌else◌, List, [], ◌∷◌, ◌++◌, length, drop, All}
use Rattle.st_net.specs.declared.entity.Row.{Row}
use Rattle.st_net.specs.Groups.{Group}
use Rattle.st_net.specs.Ranges.{RowFits}

-- the rows of the merges after a version
pub record Latest : Type 0 where
  pub since : ℕ
  pub rows : List Row

-- the rows of overlays, in order
abbrev pub rows_in : List (List Row) → List Row
rows_in [] = []
rows_in (rows ∷ later) = rows ++ rows_in later

-- with the rows of one merge more, which makes this version; none where they would be more than 64
abbrev pub merges_with : Latest → List Row → ℕ → Latest
merges_with r rows version = if nat_le (length r.rows + length rows) 64 then record r { rows = r.rows ++ rows } else record { since = version; rows = [] }

-- they are the rows of all overlays after their version, and fit the group
pub record AreLatestOf (g : Group) (proposals : List (List Row)) (r : Latest) : Type 0 where
  pub within : r.since ≤ length proposals
  pub rows : r.rows ≡ rows_in (drop r.since proposals)
  pub fit : All (RowFits g) r.rows

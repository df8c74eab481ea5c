-- Of no concern to callers: the rule of what the writer shows.
use Rattle.std.specs.Prelude.{◌≡◌, ◌⊎◌, ℕ, List, [], ◌∷◌, fold}
use mathlib.Core.Option.{some}
use lib.ListN.{get_elem?}
use Rattle.st_line.specs.Lines.{LineName}
use Rattle.st_overlay.specs.Values.{overlaid}
use Rattle.st_board.specs.declared.target.Target.{Target}
use Rattle.st_board.specs.declared.target.Merge.{Merge}
use Rattle.st_board.specs.Posts.{proposals_in, group_in}
use Rattle.st_board.specs.Published.{IsMergeOf}
use Rattle.st_board.specs.Recent.{merges_with, AreLatestOf}

-- a line's name, as numbers
abbrev pub code : LineName → List ℕ
code b = b.book.number ∷ b.book.log_name ∷ b.book.cells_name ∷ b.key ∷ []

abbrev pub absorbed : Target → Merge → Target
absorbed s m = record { table = overlaid s.table m.rows; front = m.front; recent = merges_with s.recent m.rows m.front.version }

-- the table is the merge of its front, and beside it are the rows of its last overlays
abbrev pub IsShown : Target → Type 0
IsShown x = IsMergeOf (group_in x.front.seen.log) (proposals_in x.front.seen.log) x.table × AreLatestOf (group_in x.front.seen.log) (proposals_in x.front.seen.log) x.recent

-- a view that knows no line, or this one
abbrev pub Names : LineName → List ℕ → Type 0
Names b v = (v ≡ []) ⊎ (v ≡ code b)

abbrev pub Bound : Target → List (List ℕ) → Type 0
Bound x views = IsShown x × ((seat : ℕ) (v : List ℕ) → get_elem? views seat ≡ some v → Names x.front.seen.book v)

abbrev pub Shown : List ℕ → Target → Target → List ℕ → Type 0
Shown v x y w = IsShown y × Names y.front.seen.book v × (w ≡ code y.front.seen.book)

-- with these merges, the table is that of the last front, which is of the same line
abbrev pub IsReady : Target → List Merge → Type 0
IsReady x ms = let y = fold absorbed x ms in IsShown y × (y.front.seen.book ≡ x.front.seen.book)

-- A small line, worked out: a group of one switch whose variables open with 1, and two merges that set its firmware to 2 and then to 3.
use Rattle.std.proofs.Common.{◌≡◌, ℕ, List, [], ◌∷◌, refl, ap, arith}
use Rattle.std.specs.Prelude.{true, false, codes}
use Rattle.st_line.specs.Lines.{LineName}
use Rattle.st_net.specs.declared.entity.Entity.{Entity}
use Rattle.st_net.specs.declared.entity.Entity.TheVariants.{Device}
use Rattle.st_net.specs.declared.entity.Var.{Var}
use Rattle.st_net.specs.declared.entity.Var.TheVariants.{Firmware}
use Rattle.st_net.specs.declared.entity.Vals.{Vals}
use Rattle.st_net.specs.declared.entity.Row.{Row}
use Rattle.st_net.specs.Groups.{Group, no_group}
use Rattle.st_net.specs.Merge.{merge_of}
use Rattle.st_overlay.specs.Values.{Values}
use Rattle.st_board.specs.declared.post.Post.{Post}
use Rattle.st_board.specs.declared.post.Post.TheVariants.{Open, Merge, End}
use Rattle.st_board.specs.Posts.{proposals_in, MarkIsLast}
use Rattle.st_board.proofs.Fronts.{mark_more}
use Rattle.st_board.specs.Published.{IsMergeOf, published_in, opening_on}

abbrev vals : ℕ → Vals
vals firmware = record { v0 = 1; v1 = firmware; v2 = 1; v3 = 1 }

abbrev g : Group
g = record no_group {
  name = codes "dc1";
  device_names = codes "a1" ∷ [];
  devices = record { tor = false; vals = vals 1; health = 5 } ∷ [];
}

abbrev a1 : Entity
a1 = Device 0

abbrev firmware : ℕ → List Row
firmware value = record { entity = a1; var = Firmware; value = value } ∷ []

-- the line from its first post: the group, two merges and the mark
abbrev line : List Post
line = Open g ∷ Merge (firmware 2) ∷ Merge (firmware 3) ∷ End ∷ []

-- a front with no merge is the opening
pub at_the_opening : (b : LineName) → published_in b (Open g ∷ []) ≡ opening_on b g
at_the_opening b = refl

-- the mark ends a front, and is no proposal of it
pub the_whole_front : (b : LineName) → published_in b line ≡ record { book = b; group = g; proposals = firmware 2 ∷ firmware 3 ∷ []; ended = true }
the_whole_front b = refl

-- what a reader sees with no merge, with one and with both
pub seen_at_0 : merge_of g [] a1 Firmware ≡ 1
seen_at_0 = refl

pub seen_at_1 : merge_of g (firmware 2 ∷ []) a1 Firmware ≡ 2
seen_at_1 = refl

pub seen_at_2 : merge_of g (proposals_in line) a1 Firmware ≡ 3
seen_at_2 = refl

-- a table that misses the last merge is not the merge of the front
abbrev table : ℕ → Values
table value = record { devices = vals value ∷ []; links = [] }

pub misses_a_merge : IsMergeOf g (proposals_in line) (table 2) → ⊥
misses_a_merge merged = absurd (omega (arith, ap (λ (values : Entity → Var → ℕ). values a1 Firmware) merged.values))

-- nothing may be posted behind the mark
pub the_mark_is_last : MarkIsLast line
the_mark_is_last = mark_more (Open g ∷ Merge (firmware 2) ∷ Merge (firmware 3) ∷ []) End refl

pub nothing_behind_the_mark : MarkIsLast (Open g ∷ End ∷ Merge (firmware 2) ∷ []) → ⊥
nothing_behind_the_mark last = let none : Merge (firmware 2) ∷ [] ≡ [] = last (Open g ∷ []) (Merge (firmware 2) ∷ []) refl in absurd (cc none)

-- What the posts of a line come to.
use Rattle.std.specs.Prelude.{◌≡◌, ℕ, Bool, true, false, ◌||◌, List, [], ◌∷◌, ◌++◌}
use Rattle.st_net.specs.declared.entity.Row.{Row}
use Rattle.st_net.specs.Groups.{Group, no_group}
use Rattle.st_board.specs.declared.post.Post.{Post}
use Rattle.st_board.specs.declared.post.Post.TheVariants.{Open, Merge, End}

-- the overlays that were published, from the first: each has the rows of an accepted proposal or of a withdrawal
abbrev pub proposals_in : List Post → List (List Row)
proposals_in [] = []
proposals_in (Open g ∷ posts) = proposals_in posts
proposals_in (Merge rows ∷ posts) = rows ∷ proposals_in posts
proposals_in (End ∷ posts) = proposals_in posts

-- the group that a line is of; none before its first post
abbrev pub group_in : List Post → Group
group_in [] = no_group
group_in (Open g ∷ posts) = g
group_in (Merge rows ∷ posts) = no_group
group_in (End ∷ posts) = no_group

abbrev pub is_end : Post → Bool
is_end (Open g) = false
is_end (Merge rows) = false
is_end End = true

-- the mark of the end is on it
abbrev pub is_ended : List Post → Bool
is_ended [] = false
is_ended (p ∷ posts) = is_end p || is_ended posts

-- the mark of the end stands at the end alone
abbrev pub MarkIsLast : List Post → Type 0
MarkIsLast log = (before after : List Post) → log ≡ before ++ End ∷ after → after ≡ []

abbrev pub flag : Bool → ℕ
flag true = 1
flag false = 0

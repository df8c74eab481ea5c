-- What contracts see of a board, a reader or a note: which line it is of, its group, the overlays of its front, and whether the front has the mark
-- of the end. And when a table is what these come to.
use Rattle.std.specs.Prelude.{◌≡◌, Bool, false, List, []}
use Rattle.st_line.specs.Lines.{LineName}
use Rattle.st_net.specs.declared.entity.Row.{Row}
use Rattle.st_net.specs.Groups.{Group}
use Rattle.st_net.specs.Merge.{merge_of}
use Rattle.st_overlay.specs.Values.{Values, IsTableOf, value_in}
use Rattle.st_board.specs.declared.post.Post.{Post}
use Rattle.st_board.specs.Posts.{proposals_in, group_in, is_ended}

pub record Published : Type 0 where
  pub book : LineName
  pub group : Group
  pub proposals : List (List Row)
  pub ended : Bool

-- of a front of a line
abbrev pub published_in : LineName → List Post → Published
published_in b log = record { book = b; group = group_in log; proposals = proposals_in log; ended = is_ended log }

-- nothing was published yet
abbrev pub opening_on : LineName → Group → Published
opening_on b g = record { book = b; group = g; proposals = []; ended = false }

-- the table has the merge of these overlays over the opening of the group
pub record IsMergeOf (g : Group) (proposals : List (List Row)) (t : Values) : Type 0 where
  pub of : IsTableOf g t
  pub values : value_in t ≡ merge_of g proposals

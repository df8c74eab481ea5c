-- Of no concern to callers: what a reader keeps.
use Rattle.std.specs.Prelude.{◌≡◌}
use Rattle.left_right.specs.Sides.{view}
use Rattle.st_board.specs.declared.reader.TargetReader.TheInside.{Inside}
use Rattle.st_board.specs.Posts.{group_in, proposals_in}
use Rattle.st_board.specs.Published.{IsMergeOf}
use Rattle.st_board.specs.ShownInside.{code}

-- its place is of its line, and its table is the merge of its front
pub record IsReader (r : Inside) : Type 0 where
  pub bound : view r.place.place ≡ code r.front.seen.book
  pub merged : IsMergeOf (group_in r.front.seen.log) (proposals_in r.front.seen.log) r.table

-- Of no concern to callers: what a board keeps.
use Rattle.std.specs.Prelude.{◌≡◌, false, [], drop}
use Rattle.left_right.specs.Sides.{view}
use Rattle.st_board.specs.declared.board.Board.TheInside.{Inside}
use Rattle.st_board.specs.ShownInside.{code, IsShown}

-- all is shown; it is the merge of its front; the desk is of its line; and where nothing was posted that is not shown, the line's writer has just this front
pub record IsBoard (b : Inside) : Type 0 where
  pub idle : drop b.desk.behind b.desk.log.items ≡ []
  pub shown : IsShown b.desk.desk.shown.value
  pub bound : view b.desk.desk.place ≡ code b.desk.desk.shown.value.front.seen.book
  pub whole : b.ahead ≡ false → b.line ≡ b.desk.desk.shown.value.front.seen

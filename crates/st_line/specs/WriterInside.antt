-- Of no concern to callers: what a writer keeps.
use Rattle.std.specs.Prelude.{◌≡◌}
use Rattle.logbook.specs.Pages.{may_write}
use Rattle.st_line.specs.declared.writer.Writer.TheInside.{Inside}
use Rattle.st_line.specs.LineInside.{head_of, last_line, right_of}

-- word and pen are of the writer's book, and the pen is the right to write the word that the next entry of the writer's line brings home
pub record IsWriter {E : Type 0} (w : Inside E) : Type 0 where
  pub head : w.head ≡ head_of w.seen.book
  pub book : w.right.book ≡ w.seen.book
  pub right : w.right.nib.right ≡ may_write
  pub next : w.right.nib.key ≡ right_of (last_line w.named.log) w.seen.log

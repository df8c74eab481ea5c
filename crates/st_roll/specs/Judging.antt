-- Of no concern to callers: what candidates are judged on.
use Rattle.std.specs.Prelude.{◌≡◌}
use Rattle.st_net.specs.Sets.{MarksOf, is_in}
use Rattle.st_event.specs.Standing.{sure_in}
use Rattle.st_promise.specs.Book.{IsBookOf}
use Rattle.st_control.specs.Control.{ControlView, standing_in}
use Rattle.st_roll.specs.declared.judging.Grounds.{Grounds}

-- the sure entities, and a book of the group
pub record AreGroundsOf (k : ControlView) (grounds : Grounds) : Type 0 where
  pub marks : MarksOf k.group grounds.sure
  pub sure : is_in grounds.sure ≡ sure_in k.group (standing_in k)
  pub book : IsBookOf k.group grounds.book.of

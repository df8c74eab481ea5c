use Rattle.st_event.proofs.Undecided.{tickets_pending}
use Rattle.st_event.proofs.laws.undecided_are_pending.Goals as goal

pub returns : goal.returns
returns c = tickets_pending

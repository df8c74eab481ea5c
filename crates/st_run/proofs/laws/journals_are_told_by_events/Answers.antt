use Rattle.st_run.proofs.Isolation.{events_tell_journals}
use Rattle.st_run.proofs.laws.journals_are_told_by_events.Goals as goal

pub returns : goal.returns
returns c = events_tell_journals

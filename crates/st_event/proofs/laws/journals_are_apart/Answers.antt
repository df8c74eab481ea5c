use Rattle.st_event.proofs.Apart.{journals_apart}
use Rattle.st_event.proofs.laws.journals_are_apart.Goals as goal

pub returns : goal.returns
returns c = journals_apart

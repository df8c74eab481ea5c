use Rattle.st_event.proofs.Agreement.{agree_throughout}
use Rattle.st_event.proofs.laws.agents_agree.Goals as goal

pub returns : goal.returns
returns c = agree_throughout

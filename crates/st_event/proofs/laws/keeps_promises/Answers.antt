use Rattle.st_event.proofs.Promises.{keeps_throughout, check_keeps}
use Rattle.st_event.proofs.laws.keeps_promises.Goals as goal

pub returns-clause-throughout : goal.returns-clause-throughout
returns-clause-throughout c = keeps_throughout

pub returns-clause-checks : goal.returns-clause-checks
returns-clause-checks c = check_keeps

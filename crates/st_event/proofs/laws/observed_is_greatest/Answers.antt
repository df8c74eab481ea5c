use Rattle.st_event.proofs.Ascending.{reports_ascend}
use Rattle.st_event.proofs.LawLemmas.{observed_is}
use Rattle.st_event.proofs.laws.observed_is_greatest.Goals as goal

pub returns-clause-greatest : goal.returns-clause-greatest
returns-clause-greatest c = observed_is

pub returns-clause-numbered : goal.returns-clause-numbered
returns-clause-numbered c = reports_ascend

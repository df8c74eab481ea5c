use Rattle.st_event.proofs.InmostCut.{side_is_least}
use Rattle.st_event.proofs.PromiseLaws.{side_is_one, no_walk}
use Rattle.st_event.proofs.laws.least_side_is_one.Goals as goal

pub returns-clause-one : goal.returns-clause-one
returns-clause-one c = side_is_one

pub returns-clause-cut_off : goal.returns-clause-cut_off
returns-clause-cut_off c = no_walk

pub returns-clause-cut : goal.returns-clause-cut
returns-clause-cut c = side_is_least

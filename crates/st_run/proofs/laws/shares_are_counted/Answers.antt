use Rattle.st_run.proofs.MostMade.{share_within}
use Rattle.st_run.proofs.laws.shares_are_counted.Goals as goal

pub returns : goal.returns
returns c = share_within

use Rattle.st_player.proofs.CauseLaws.{failures_left, setters_set, unset_are_opening}
use Rattle.st_player.proofs.laws.causes_hold.Goals as goal

pub returns-clause-set : goal.returns-clause-set
returns-clause-set c = setters_set

pub returns-clause-unset : goal.returns-clause-unset
returns-clause-unset c = unset_are_opening

pub returns-clause-failed : goal.returns-clause-failed
returns-clause-failed c = failures_left

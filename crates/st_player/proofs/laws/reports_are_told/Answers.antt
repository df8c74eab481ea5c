use Rattle.st_player.specs.States.{state_of}
use Rattle.st_player.proofs.KnownReports.{health_known, known_by}
use Rattle.st_player.proofs.laws.reports_are_told.Goals as goal

pub returns-clause-made : goal.returns-clause-made
unfolding state_of
returns-clause-made c g past e = known_by g past e

pub returns-clause-health : goal.returns-clause-health
unfolding state_of
returns-clause-health c g past e h told = health_known g past e h told

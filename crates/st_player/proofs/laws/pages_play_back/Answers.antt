use Rattle.st_player.proofs.PlayedBack.{states_back}
use Rattle.st_player.proofs.PlayedCounts.{counts_back, promises_back}
use Rattle.st_player.proofs.laws.pages_play_back.Goals as goal

pub returns-clause-states : goal.returns-clause-states
returns-clause-states c = states_back

pub returns-clause-counts : goal.returns-clause-counts
returns-clause-counts c = counts_back

pub returns-clause-promises : goal.returns-clause-promises
returns-clause-promises c = promises_back

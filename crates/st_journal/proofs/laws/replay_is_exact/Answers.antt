use Rattle.st_journal.proofs.ReplayLemmas.{wrong_is_illegal, first_wrong_is_one}
use Rattle.st_journal.proofs.laws.replay_is_exact.Goals as goal

pub returns-clause-illegal : goal.returns-clause-illegal
returns-clause-illegal c = wrong_is_illegal

pub returns-clause-one : goal.returns-clause-one
returns-clause-one c = first_wrong_is_one

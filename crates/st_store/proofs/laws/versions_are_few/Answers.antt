use Rattle.st_store.proofs.MergeSteps.{makes_one, withdrawal_makes_one}
use Rattle.st_store.proofs.laws.versions_are_few.Goals as goal

pub returns-clause-decision : goal.returns-clause-decision
returns-clause-decision c = makes_one

pub returns-clause-withdrawal : goal.returns-clause-withdrawal
returns-clause-withdrawal c = withdrawal_makes_one

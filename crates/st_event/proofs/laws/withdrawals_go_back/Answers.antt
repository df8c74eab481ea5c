use Rattle.st_event.proofs.Withdrawals.{kept_tells, leaves_sure, withdraws_one}
use Rattle.st_event.proofs.laws.withdrawals_go_back.Goals as goal

pub returns-clause-moves : goal.returns-clause-moves
returns-clause-moves c = withdraws_one

pub returns-clause-sure : goal.returns-clause-sure
returns-clause-sure c = leaves_sure

pub returns-clause-kept : goal.returns-clause-kept
returns-clause-kept c = kept_tells

use Rattle.st_serial.proofs.Waiting.{all_are_decided, awaits_decide}
use Rattle.st_serial.proofs.laws.all_are_decided.Goals as goal

pub returns-clause-all : goal.returns-clause-all
returns-clause-all c = all_are_decided

pub returns-clause-awaited : goal.returns-clause-awaited
returns-clause-awaited c = awaits_decide

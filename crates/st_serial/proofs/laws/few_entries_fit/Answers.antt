use Rattle.st_serial.proofs.Fitting.{few_entries_fit, journals_are_within}
use Rattle.st_serial.proofs.laws.few_entries_fit.Goals as goal

pub returns-clause-within : goal.returns-clause-within
returns-clause-within c = journals_are_within

pub returns-clause-fit : goal.returns-clause-fit
returns-clause-fit c = few_entries_fit

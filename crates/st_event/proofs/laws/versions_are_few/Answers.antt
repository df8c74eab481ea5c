use Rattle.st_event.proofs.Versions.{versions_few, accepted_few}
use Rattle.st_event.proofs.laws.versions_are_few.Goals as goal

pub returns-clause-entries : goal.returns-clause-entries
returns-clause-entries c = versions_few

pub returns-clause-accepted : goal.returns-clause-accepted
returns-clause-accepted c = accepted_few

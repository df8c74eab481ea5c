use Rattle.st_event.proofs.Begun.{overlaid_later, accepted_later}
use Rattle.st_event.proofs.laws.accepted_begun.Goals as goal

pub returns-clause-overlaid : goal.returns-clause-overlaid
returns-clause-overlaid c = overlaid_later

pub returns-clause-accepted : goal.returns-clause-accepted
returns-clause-accepted c = accepted_later

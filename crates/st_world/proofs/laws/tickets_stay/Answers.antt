use Rattle.st_world.proofs.CommitLaws.{tickets_stay, bases_may}
use Rattle.st_world.proofs.laws.tickets_stay.Goals as goal

pub returns-clause-stay : goal.returns-clause-stay
returns-clause-stay c = tickets_stay

pub returns-clause-bases : goal.returns-clause-bases
returns-clause-bases c = bases_may

use Rattle.st_event.proofs.Standings.{standing_of-next, wires_of-next, reply_is}
use Rattle.st_event.proofs.laws.standing_moves.Goals as goal

pub returns-clause-checker : goal.returns-clause-checker
returns-clause-checker c = standing_of-next

pub returns-clause-network : goal.returns-clause-network
returns-clause-network c = wires_of-next

pub returns-clause-replies : goal.returns-clause-replies
returns-clause-replies c = reply_is

use Rattle.st_player.proofs.AskedLemmas.{asked_gave}
use Rattle.st_player.proofs.laws.asked_gave_ticket.Goals as goal

pub returns : goal.returns
returns c = asked_gave

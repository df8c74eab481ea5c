use Rattle.st_player.proofs.PlayedBack.{no_entry_lost}
use Rattle.st_player.proofs.laws.no_entry_is_lost.Goals as goal

pub returns : goal.returns
returns c = no_entry_lost

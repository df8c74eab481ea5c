use Rattle.st_player.proofs.PlayedBack.{longest_fits}
use Rattle.st_player.proofs.laws.the_longest_is_shown.Goals as goal

pub returns : goal.returns
returns c = longest_fits

use Rattle.st_player.proofs.ToldCuts.{told_cuts}
use Rattle.st_player.proofs.laws.refusals_tell_cuts.Goals as goal

pub returns : goal.returns
returns c = told_cuts

use Rattle.std.proofs.Common.{refl}
use Rattle.st_roll.proofs.laws.refusals_are_verdicts.Goals as goal

pub returns : goal.returns
returns c = λ g st app rows. refl

use Rattle.st_net.proofs.DemandLaws.{breaks_none, holds_with_more, tells_demands}
use Rattle.st_roll.proofs.RollLaws.{is_roll}
use Rattle.st_roll.proofs.laws.plans_are_rolls.Goals as goal

pub returns : goal.returns
returns c = λ g st app devices f sound. is_roll g st app devices f (record { more = holds_with_more g; tells = tells_demands g sound; none_breaks = breaks_none g })

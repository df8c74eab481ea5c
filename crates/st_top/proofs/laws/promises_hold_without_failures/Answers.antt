use Rattle.st_top.proofs.Promised.{promises_hold}
use Rattle.st_top.proofs.laws.promises_hold_without_failures.Goals as goal

pub returns : goal.returns
returns c = promises_hold

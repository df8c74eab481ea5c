use Rattle.st_event.proofs.Granted.{holder_is}
use Rattle.st_event.proofs.laws.holder_is_last_grant.Goals as goal

pub returns : goal.returns
returns c = holder_is

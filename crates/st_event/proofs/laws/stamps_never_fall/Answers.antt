use Rattle.st_event.proofs.Stamps.{stamp_grows, stamp_small}
use Rattle.st_event.proofs.laws.stamps_never_fall.Goals as goal

pub returns-clause-grow : goal.returns-clause-grow
returns-clause-grow c = stamp_grows

pub returns-clause-behind : goal.returns-clause-behind
returns-clause-behind c = stamp_small

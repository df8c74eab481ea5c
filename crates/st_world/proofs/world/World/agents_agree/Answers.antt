use Rattle.st_event.proofs.Agreement.{agree_throughout}
use Rattle.st_world.proofs.world.World.agents_agree.Goals as goal

pub returns : goal.returns
returns c = agree_throughout _ _ c.is_legal.ensures.legal

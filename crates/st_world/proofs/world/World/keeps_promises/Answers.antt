use Rattle.st_event.proofs.Promises.{keeps_throughout}
use Rattle.st_world.proofs.world.World.keeps_promises.Goals as goal

pub returns : goal.returns
returns c = keeps_throughout _ _ c.is_legal.ensures.sound c.is_legal.ensures.legal

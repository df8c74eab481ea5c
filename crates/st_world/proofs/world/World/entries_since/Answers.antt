use Rattle.std.proofs.Common.{ap, ◌∙◌, reverse}
use Rattle.st_world.specs.World.{WorldView}
use Rattle.st_world.proofs.WorldLaws.{since_is}
use Rattle.st_world.proofs.world.World.entries_since.Goals as goal

pub returns-clause-since : goal.returns-clause-since
returns-clause-since c more before is count = since_is c.as_slice.result.now before more c.args.from (ap reverse c.as_slice.ensures.value ∙ (ap (λ (w : WorldView). w.history.past) c.self.view_is ∙ is)) count

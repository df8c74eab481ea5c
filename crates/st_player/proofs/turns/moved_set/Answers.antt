use Rattle.std.proofs.Common.{◌∙◌, ap}
use Rattle.st_net.specs.Sets.{Marks, is_in}
use Rattle.st_player.specs.Touched.{set_at}
use Rattle.st_player.proofs.turns.moved_set.Goals as goal

pub returns-clause-members : goal.returns-clause-members
returns-clause-members c = c.set_at.ensures.members ∙ ap (λ (m : Marks). set_at (is_in m) c.args.at c.args.is) c.in_ok-moved.ensures

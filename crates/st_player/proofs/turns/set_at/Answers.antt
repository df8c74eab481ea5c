use Rattle.std.proofs.Common.{◌∙◌, Bool, ap, sym}
use Rattle.st_net.specs.Sets.{is_in}
use Rattle.st_player.specs.Touched.{set_at}
use Rattle.st_player.proofs.turns.set_at.Goals as goal

pub returns-then-is-clause-members : goal.returns-then-is-clause-members
returns-then-is-clause-members c = c.put.ensures.members ∙ ap (λ (b : Bool). set_at (is_in c.args.set.now) c.args.at b) (sym c.if-is.true)

pub returns-else-is-clause-members : goal.returns-else-is-clause-members
returns-else-is-clause-members c = c.remove.ensures.members ∙ ap (λ (b : Bool). set_at (is_in c.args.set.now) c.args.at b) (sym c.if-is.false)

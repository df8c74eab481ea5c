use Rattle.std.proofs.Common.{subst}
use Rattle.std.specs.Prelude.{IfOk}
use Rattle.st_control.specs.Control.{ControlView}
use Rattle.st_control.specs.Commits.{Begins}
use Rattle.st_control.proofs.StampLaws.{ok_map}
use Rattle.st_world.proofs.CommitLaws.{begins_at}
use Rattle.st_world.proofs.world.World.begin_check.Goals as goal

pub returns : goal.returns
returns c =
    rw (← c.self.view_is) (ok_map _ _ c.begin_check.result (λ begin begins. begins_at c.self.inside.machine c.self.inside.journal.items begin c.self.invariant begins)
    (subst (λ (k : ControlView). IfOk c.begin_check.result (Begins k)) c.control.ensures c.begin_check.ensures))

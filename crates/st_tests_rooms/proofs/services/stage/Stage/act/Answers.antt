use Rattle.std.proofs.Common.{ℕ, sym, subst}
use Rattle.st_service.specs.Acts.{CanDo}
use Rattle.st_tests_rooms.proofs.services.stage.Stage.act.Goals as goal

pub step_app-requires-clause-act : goal.step_app-requires-clause-act
step_app-requires-clause-act g c =
    λ κs lives. subst (λ (n : ℕ). CanDo g.J.Naming.group n c.args.act.now) (sym c.args.self.now.one_room) (c.if-not-can_do.ensures g.J.Naming.group (sym c.args.self.now.group_is))

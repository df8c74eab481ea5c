use Rattle.std.proofs.Common.{refl}
use Rattle.st_world.proofs.MachineLaws.{checker_answers}
use Rattle.st_world.proofs.machine.Machine.withdraw.Goals as goal

pub returns-clause-ok : goal.returns-clause-ok
returns-clause-ok c = rw (← c.self.view_is, c.withdrawal_reply.ensures) (checker_answers c.self.inside.control c.withdraw.new.self c.self.inside.plant c.self.inside.wire c.args.entry _ _ refl c.in_ok-withdraw.ensures.ok)

use Rattle.std.proofs.Common.{refl}
use Rattle.st_control.proofs.StampLaws.{ok_map}
use Rattle.st_world.proofs.MachineLaws.{checker_answers}
use Rattle.st_world.proofs.machine.Machine.commit.Goals as goal

pub returns-clause-ok : goal.returns-clause-ok
returns-clause-ok c = rw (← c.self.view_is) (ok_map _ _ c.commit_twice.result (λ receipts moves. checker_answers c.self.inside.control c.commit_twice.new.self c.self.inside.plant c.self.inside.wire c.args.entry _ _ refl moves) c.commit_twice.ensures.ok)

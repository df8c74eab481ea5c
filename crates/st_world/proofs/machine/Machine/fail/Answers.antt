use Rattle.st_world.proofs.MachineLaws.{fail_answers}
use Rattle.st_world.proofs.machine.Machine.fail.Goals as goal

pub returns-clause-ok : goal.returns-clause-ok
returns-clause-ok c = λ n. rw (← c.self.view_is) (fail_answers c.self.inside.control c.topo.result.now c.self.inside.plant c.fail.new.self c.self.inside.wire n c.args.entity c.args.vals c.args.health c.topo.ensures.topo c.fail.ensures.agents)

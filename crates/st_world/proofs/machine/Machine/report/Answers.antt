use Rattle.st_world.proofs.MachineLaws.{report_answers}
use Rattle.st_world.proofs.machine.Machine.report.Goals as goal

pub returns-clause-ok : goal.returns-clause-ok
returns-clause-ok c = λ n. rw (← c.self.view_is) (report_answers c.self.inside.control c.topo.result.now c.self.inside.plant c.report-report.new.self c.self.inside.wire c.reserve.new.self c.push_report.new.self n c.args.entity c.report-report.result c.in-Ok.report c.topo.ensures.topo c.in_ok-reserve.ensures.same c.report-report.ensures.report c.report-report.ensures.agents c.in-Ok.ensures.number c.in-Ok.ensures.ok)

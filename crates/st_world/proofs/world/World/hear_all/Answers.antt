use Rattle.st_event.specs.declared.event.Event.TheVariants.{Hear}
use Rattle.st_world.proofs.RoundLaws.{arrival_goes, arrival_stops, arrival_parts}
use Rattle.st_world.proofs.world.World.hear_all.Goals as goal

pub returns-in_err-enter-clause-err : goal.returns-in_err-enter-clause-err
returns-in_err-enter-clause-err c = arrival_parts c.from_residual.result Hear c.args.self.now c.loop-report.self c.enter.new.self c.args.reports.now c.loop-report.report-index c.loop-report.invariant c.loop-report-test.true c.in_err-enter.ensures.err

pub returns-in-Full-clause-ok : goal.returns-in-Full-clause-ok
returns-in-Full-clause-ok c = arrival_stops Hear c.args.self.now c.loop-report.self c.enter.new.self c.args.reports.now c.loop-report.report-index c.in_ok-enter.field-0 c.loop-report.invariant c.loop-report-test.true c.in_ok-enter.ensures.ok c.in-Full.is

pub loop-report-preserved : goal.loop-report-preserved
loop-report-preserved c = arrival_goes Hear c.args.self.now c.loop-report.self c.enter.new.self c.args.reports.now c.loop-report.report-index c.in_ok-enter.field-0 c.loop-report.invariant c.loop-report-test.true c.in_ok-enter.ensures.ok c.in-On.is c.enter.ensures.setting

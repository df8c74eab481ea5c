use Rattle.st_event.specs.declared.event.Event.TheVariants.{Deliver}
use Rattle.st_world.proofs.RoundLaws.{arrival_goes, arrival_stops, arrival_parts}
use Rattle.st_world.proofs.world.World.deliver_all.Goals as goal

pub returns-in_err-enter-clause-err : goal.returns-in_err-enter-clause-err
returns-in_err-enter-clause-err c = arrival_parts c.from_residual.result Deliver c.args.self.now c.loop-command.self c.enter.new.self c.args.commands.now c.loop-command.command-index c.loop-command.invariant c.loop-command-test.true c.in_err-enter.ensures.err

pub returns-in-Full-clause-ok : goal.returns-in-Full-clause-ok
returns-in-Full-clause-ok c = arrival_stops Deliver c.args.self.now c.loop-command.self c.enter.new.self c.args.commands.now c.loop-command.command-index c.in_ok-enter.field-0 c.loop-command.invariant c.loop-command-test.true c.in_ok-enter.ensures.ok c.in-Full.is

pub loop-command-preserved : goal.loop-command-preserved
loop-command-preserved c = arrival_goes Deliver c.args.self.now c.loop-command.self c.enter.new.self c.args.commands.now c.loop-command.command-index c.in_ok-enter.field-0 c.loop-command.invariant c.loop-command-test.true c.in_ok-enter.ensures.ok c.in-On.is c.enter.ensures.setting

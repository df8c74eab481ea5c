use Rattle.std.proofs.Common.{subst, sym}
use Rattle.st_net.specs.Groups.{IsEntityOf}
use Rattle.st_control.specs.declared.send.SendStep.{SendStep}
use Rattle.st_control.specs.Control.{Sends}
use Rattle.st_world.specs.Machine.{MachineView}
use Rattle.st_world.proofs.MachineLaws.{send_answers, send_machine, settled_answers, blocked_answers}
use Rattle.st_world.proofs.machine.Machine.send.Goals as goal

pub invariant_of-self-in-Command : goal.invariant_of-self-in-Command
invariant_of-self-in-Command c =
    let sends = subst (λ (step : SendStep). Sends c.self.inside.control c.args.entity step) c.in-Command.is c.send.ensures in
    let here = subst (λ (m : MachineView). IsEntityOf m.checker.group c.args.entity) (sym c.self.view_is) c.requires.entity in
    send_machine c.self.inside.control c.self.inside.plant c.self.inside.wire c.push_command.new.self c.args.entity c.in-Command.command here sends c.in_ok-push_command-in-Command.ensures.ok c.self.invariant

pub returns-in_ok-push_command-in-Command-clause-ok : goal.returns-in_ok-push_command-in-Command-clause-ok
returns-in_ok-push_command-in-Command-clause-ok c =
    let sends = subst (λ (step : SendStep). Sends c.self.inside.control c.args.entity step) c.in-Command.is c.send.ensures in
    λ n. rw (← c.self.view_is) (send_answers c.self.inside.control c.self.inside.plant c.self.inside.wire c.push_command.new.self n c.args.entity c.in-Command.command c.in_ok-push_command-in-Command.field-0 sends c.in_ok-push_command-in-Command.ensures.number c.in_ok-push_command-in-Command.ensures.ok)

pub returns-in-Settled-clause-ok : goal.returns-in-Settled-clause-ok
returns-in-Settled-clause-ok c =
    let sends = subst (λ (step : SendStep). Sends c.self.inside.control c.args.entity step) c.in-Settled.is c.send.ensures in
    λ n. rw (← c.self.view_is) (settled_answers c.self.inside.control c.self.inside.plant c.self.inside.wire n c.args.entity sends)

pub returns-in-Blocked-clause-ok : goal.returns-in-Blocked-clause-ok
returns-in-Blocked-clause-ok c =
    let sends = subst (λ (step : SendStep). Sends c.self.inside.control c.args.entity step) c.in-Blocked.is c.send.ensures in
    λ n. rw (← c.self.view_is) (blocked_answers c.self.inside.control c.self.inside.plant c.self.inside.wire n c.args.entity c.in-Blocked.row sends)

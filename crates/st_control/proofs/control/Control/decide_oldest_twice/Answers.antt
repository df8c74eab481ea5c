use Rattle.st_event.specs.declared.event.Event.TheVariants.{Check}
use Rattle.st_event.specs.declared.reply.Reply.TheVariants.{Decided}
use Rattle.st_control.proofs.RunLaws.{moves_as}
use Rattle.st_control.proofs.control.Control.decide_oldest_twice.Goals as goal

pub returns-clause-ok : goal.returns-clause-ok
returns-clause-ok c = moves_as c.args.self.now c.judge_oldest.new.self c.decide.new.self c.judge_oldest.new.self.flows_run c.in_ok-decision.decision.receipt.entry c.args.entry Check (Decided c.in_ok-decision.decision.receipt) c.in_ok-decision.ensures.same c.in_ok-decision.ensures.entry c.in_ok-decide.ensures.ok

use Rattle.std.proofs.Common.{◌≡◌, ap, sym, ◌∙◌}
use Rattle.st_world.proofs.MachineLaws.{deliver_answers, got_is, reply_of_delivery}
use Rattle.st_world.proofs.machine.Machine.deliver.Goals.{in-Begun, in-Stale}
use Rattle.st_world.proofs.machine.Machine.deliver.Goals as goal

pub returns-after-deliver-clause-ok : goal.returns-after-deliver-clause-ok
returns-after-deliver-clause-ok c =
    let found = got_is c.self.inside.wire.commands c.args.command c.in-Got.command (sym c.command.ensures ∙ c.in-Got.is) in
    let reply : c.match-deliver.result ≡ reply_of_delivery c.deliver.result = elim c.match-deliver.branch [ in-Begun w ↦ w.result-is ∙ sym (ap reply_of_delivery w.in-Begun.is) | in-Stale w ↦ w.result-is ∙ sym (ap reply_of_delivery w.in-Stale.is) ] in
    λ n. rw (← c.self.view_is, reply) (deliver_answers c.self.inside.control c.topo.result.now c.self.inside.plant c.deliver.new.self c.self.inside.wire n c.args.command c.in-Got.command c.deliver.result c.topo.ensures.topo found c.deliver.ensures.answer c.deliver.ensures.agents)

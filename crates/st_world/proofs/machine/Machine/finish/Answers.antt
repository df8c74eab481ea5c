use Rattle.std.proofs.Common.{◌≡◌, ap, sym, ◌∙◌}
use Rattle.st_world.proofs.MachineLaws.{finish_answers, reply_of_finish}
use Rattle.st_world.proofs.machine.Machine.finish.Goals.{in-Done, in-NotBusy}
use Rattle.st_world.proofs.machine.Machine.finish.Goals as goal

pub returns-clause-ok : goal.returns-clause-ok
returns-clause-ok c =
    let reply : c.match-finish.result ≡ reply_of_finish c.finish.result = elim c.match-finish.branch [ in-Done w ↦ w.result-is ∙ sym (ap reply_of_finish w.in-Done.is) | in-NotBusy w ↦ w.result-is ∙ sym (ap reply_of_finish w.in-NotBusy.is) ] in
    λ n. rw (← c.self.view_is, reply) (finish_answers c.self.inside.control c.topo.result.now c.self.inside.plant c.finish.new.self c.self.inside.wire n c.args.entity c.finish.result c.topo.ensures.topo c.finish.ensures.answer c.finish.ensures.agents)

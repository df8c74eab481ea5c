use Rattle.std.proofs.Common.{sym, ◌∙◌}
use Rattle.st_net.specs.declared.message.Report.{Report}
use Rattle.st_net.specs.Groups.{IsEntityOf}
use Rattle.st_world.proofs.MachineLaws.{hear_answers, got_is, all_nth}
use Rattle.st_world.proofs.machine.Machine.hear.Goals as goal

pub hear-requires : goal.hear-requires
hear-requires c =
    let found = got_is c.self.inside.wire.reports c.args.report c.in-Got.report (sym c.report.ensures ∙ c.in-Got.is) in
    all_nth (λ (r : Report). IsEntityOf c.self.inside.control.group r.entity) c.self.inside.wire.reports c.args.report c.in-Got.report c.self.invariant.reports found

pub returns-in-Got-clause-ok : goal.returns-in-Got-clause-ok
returns-in-Got-clause-ok c =
    let found = got_is c.self.inside.wire.reports c.args.report c.in-Got.report (sym c.report.ensures ∙ c.in-Got.is) in
    rw (← c.self.view_is, c.keep_reply.ensures.reply) (hear_answers c.self.inside.control c.hear.new.self c.self.inside.plant c.self.inside.wire c.args.entry c.args.report c.in-Got.report c.hear.result found c.hear.ensures.hears)

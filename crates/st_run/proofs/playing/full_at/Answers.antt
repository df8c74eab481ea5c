-- Whatever a command answers, it is one that the pass went through.
use Rattle.st_run.proofs.WentLaws.{went_one}
use Rattle.st_run.proofs.playing.full_at.Goals as goal

pub returns-in-Ok-Done-clause-went : goal.returns-in-Ok-Done-clause-went
returns-in-Ok-Done-clause-went g c = went_one g.J.Naming.group g.J.Naming.lines c.args.act.now c.args.pass.now c.step_app.new.pass c.step_app.ensures.kept

pub returns-in-Ok-JournalFull-clause-went : goal.returns-in-Ok-JournalFull-clause-went
returns-in-Ok-JournalFull-clause-went g c = went_one g.J.Naming.group g.J.Naming.lines c.args.act.now c.args.pass.now c.step_app.new.pass c.step_app.ensures.kept

pub returns-in-Err-clause-went : goal.returns-in-Err-clause-went
returns-in-Err-clause-went g c = went_one g.J.Naming.group g.J.Naming.lines c.args.act.now c.args.pass.now c.step_app.new.pass c.step_app.ensures.kept

use Rattle.std.proofs.Common.{[]}
use Rattle.st_gen.specs.Scripts.{stage}
use Rattle.st_gen.proofs.Growing.{joined}
use Rattle.st_gen.proofs.scripts.upgrader.Goals as goal

pub loop-j-preserved : goal.loop-j-preserved
loop-j-preserved c = joined (stage c.args.pods c.upgrade-value.result) [] c.loop-j.acts.items c.add_stage.new.acts.items c.loop-j.j c.loop-j.invariant c.in_ok-add_stage.ensures

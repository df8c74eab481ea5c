use Rattle.std.proofs.Common.{[]}
use Rattle.st_gen.specs.FatTrees.{half}
use Rattle.st_gen.specs.Scripts.{stage_row}
use Rattle.st_gen.proofs.Growing.{mapped}
use Rattle.st_gen.proofs.scripts.stage_rows.Goals as goal

pub loop-pod-preserved : goal.loop-pod-preserved
loop-pod-preserved c = mapped (stage_row (half c.args.pods) c.args.value c.args.j) [] c.loop-pod.rows.items c.push.new.self.items c.firmware_row.result c.loop-pod.pod c.loop-pod.invariant c.in_ok-push.ensures.items c.firmware_row.ensures

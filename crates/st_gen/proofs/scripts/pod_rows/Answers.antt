use Rattle.std.proofs.Common.{[]}
use Rattle.st_gen.specs.FatTrees.{half}
use Rattle.st_gen.specs.Scripts.{firmware_row}
use Rattle.st_gen.proofs.Growing.{mapped}
use Rattle.st_gen.proofs.scripts.pod_rows.Goals as goal

pub loop-j-preserved : goal.loop-j-preserved
loop-j-preserved c = mapped (firmware_row (half c.args.pods) c.args.value c.args.pod) [] c.loop-j.rows.items c.push.new.self.items c.firmware_row.result c.loop-j.j c.loop-j.invariant c.in_ok-push.ensures.items c.firmware_row.ensures

use Rattle.std.proofs.Common.{refl}
use Rattle.st_top.proofs.PlanLines.{batch_next}
use Rattle.st_top.proofs.rolling.print_batches.Goals as goal

pub loop-i-preserved : goal.loop-i-preserved
loop-i-preserved c = batch_next c.args.topo.now c.args.apps.now c.args.batches.now c.loop-i.i _ _ _ _ _ _ c.loop-i-test.true c.index-batches-i.is refl c.loop-i.invariant c.in_ok-print_batch.ensures

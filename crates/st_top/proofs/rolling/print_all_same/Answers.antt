use Rattle.std.proofs.Common.{refl}
use Rattle.st_top.specs.Rolling.{same_words}
use Rattle.st_top.proofs.TextLines.{line_next}
use Rattle.st_top.proofs.rolling.print_all_same.Goals as goal

pub loop-device-preserved : goal.loop-device-preserved
loop-device-preserved c = line_next (same_words c.args.topo.now) _ _ _ _ _ _ _ c.loop-device-test.true refl c.loop-device.invariant c.in_ok-print_same.ensures

use Rattle.st_top.specs.Rolling.{roll_lines}
use Rattle.st_top.proofs.Histories.{lines_next}
use Rattle.st_top.proofs.rolling.print_rolls.Goals as goal

pub loop-world-preserved : goal.loop-world-preserved
loop-world-preserved c = lines_next (roll_lines c.args.apps.now c.args.firmware) c.args.worlds.now c.loop-world.world-index c.world-item.result c.world-item.result c.args.out.now c.loop-world.out c.print_roll.new.out c.loop-world-test.true c.world-item.is c.loop-world.invariant c.in_ok-print_roll.ensures

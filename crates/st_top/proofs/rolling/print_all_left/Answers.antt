use Rattle.st_top.specs.Rolling.{left_words}
use Rattle.st_top.proofs.TextLines.{line_next}
use Rattle.st_top.proofs.rolling.print_all_left.Goals as goal

pub loop-one-preserved : goal.loop-one-preserved
loop-one-preserved c = line_next (left_words c.args.topo.now c.args.apps.now c.args.number) c.args.left.now c.loop-one.one-index c.one-item.result c.one-item.result c.args.out.now c.loop-one.out c.print_left.new.out c.loop-one-test.true c.one-item.is c.loop-one.invariant c.in_ok-print_left.ensures

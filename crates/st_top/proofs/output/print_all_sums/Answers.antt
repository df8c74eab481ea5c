use Rattle.st_report.specs.Sums.{sums_text}
use Rattle.st_top.proofs.Histories.{text_next}
use Rattle.st_top.proofs.output.print_all_sums.Goals as goal

pub loop-world-preserved : goal.loop-world-preserved
loop-world-preserved c = text_next (λ h. sums_text h.group h.past) c.args.worlds.now c.loop-world.world-index c.world-item.result c.world-item.result c.args.out.now c.loop-world.out c.print_sums.new.out c.loop-world-test.true c.world-item.is c.loop-world.invariant c.in_ok-print_sums.ensures.ok

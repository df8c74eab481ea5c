use Rattle.st_serial.proofs.Schedules.{laps_next, laps_start}
use Rattle.st_serial.proofs.schedule.add_laps.Goals as goal

pub loop-k-init : goal.loop-k-init
loop-k-init c = λ order is. laps_start c.args.apps.now order c.args.places.now.items

pub loop-k-preserved : goal.loop-k-preserved
loop-k-preserved c = λ order is. laps_next c.args.apps.now c.args.places.now.items c.loop-k.places.items c.add_lap.new.places.items order c.loop-k.k (c.loop-k.invariant order is) (c.in_ok-add_lap.ensures order is)

use Rattle.std.proofs.Common.{◌<◌, length, slice_index_or, arith}
use Rattle.st_serial.proofs.Schedules.{lap_next}
use Rattle.st_serial.proofs.schedule.add_lap.Goals as goal

pub loop-app-preserved : goal.loop-app-preserved
loop-app-preserved c = λ order is.
    let low : c.loop-app.app < length c.args.apps.now = omega (arith, c.loop-app-test.true, c.requires.tally) in
    lap_next c.args.apps.now c.args.places.now.items c.loop-app.places.items c.add_place.new.places.items order c.args.k c.loop-app.app (slice_index_or c.args.tally.now c.loop-app.app 0) (c.loop-app.invariant order is) (is.counts c.loop-app.app low) c.in_ok-add_place.ensures

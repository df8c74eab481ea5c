use Rattle.std.proofs.Common.{◌≡◌, ◌<◌, ◌≤◌, ◌+◌, ◌∷◌, length, reverse, take, arith}
use Rattle.std.specs.Prelude.{slice_index_or}
use Rattle.std.proofs.lemmas.List.{get_or_default}
use Rattle.st_serial.specs.Schedule.{times}
use Rattle.st_serial.proofs.Schedules.{times_before, names_next, tally_next, ordered_next}
use Rattle.st_serial.proofs.schedule.add_ordered.Goals as goal

pub overflow_add-tally : goal.overflow_add-tally
overflow_add-tally c =
    let order = c.args.order.now in
    let i = c.loop-app.app-index in
    let app = slice_index_or order i 0 in
    let low : app < length c.args.apps.now = c.requires.order i 0 c.loop-app-test.true in
    let count : slice_index_or c.loop-app.tally app 0 ≡ times app (reverse (take i order)) = c.loop-app.invariant.counted.counts app low in
    let few = times_before order i app in
    let sum : slice_index_or c.loop-app.tally app 0 + 1 ≤ length order = omega (arith, count, few, c.loop-app-test.true) in
    omega (arith, sum)

pub loop-app-preserved : goal.loop-app-preserved
loop-app-preserved c =
    let order = c.args.order.now in
    let apps = c.args.apps.now in
    let i = c.loop-app.app-index in
    let app = slice_index_or order i 0 in
    let before = reverse (take i order) in
    let low : app < length apps = c.requires.order i 0 c.loop-app-test.true in
    let count : slice_index_or c.loop-app.tally app 0 ≡ times app before = c.loop-app.invariant.counted.counts app low in
    let names : reverse (take (i + 1) order) ≡ app ∷ before = names_next order i app c.loop-app-test.true (get_or_default order i 0 app c.loop-app-test.true) in
    record {
      counted = rw names (tally_next apps before c.loop-app.tally app (slice_index_or c.loop-app.tally app 0) c.loop-app.invariant.counted low count);
      added = rw names (ordered_next apps c.loop-app.places.items c.args.places.now.items c.add_place.new.places.items before app (slice_index_or c.loop-app.tally app 0) c.loop-app.invariant.added count c.in_ok-add_place.ensures);
    }

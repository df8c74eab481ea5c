use Rattle.std.proofs.Common.{◌≡◌, ◌<◌, ◌++◌, length, reverse, drop, ap, sym, ◌∙◌, subst, arith}
use Rattle.std.specs.Prelude.{All}
use Rattle.std.proofs.lemmas.List.{length-reverse}
use Rattle.st_grammar.specs.declared.limits.TheConstants.{MAX_ACTS}
use Rattle.st_serial.specs.Schedule.{IsTally, IsPlaceIn, ordered, laps, schedule}
use Rattle.st_serial.proofs.Schedules.{tally_short, schedule_within, whole_tally}
use Rattle.st_serial.proofs.schedule.schedule.Goals as goal

pub add_laps-requires-clause-short : goal.add_laps-requires-clause-short
add_laps-requires-clause-short c =
    let long : c.in_ok-tally.tally.len ≡ length c.args.apps.now = c.in_ok-tally.ensures.len in
    let each : c.in_ok-tally.tally.len ≡ length c.add_ordered.new.tally = omega (arith, long, c.in_ok-add_ordered.ensures.tally.one_each) in
    let is : IsTally c.args.apps.now (reverse c.args.order.now) c.as_slice.result.now = rw (c.as_slice.ensures.value, whole_tally c.in_ok-tally.tally.len c.add_ordered.new.tally (drop (length c.add_ordered.new.tally) c.in_ok-tally.tally.items) each) c.in_ok-add_ordered.ensures.tally in
    let turned = length-reverse c.args.order.now in
    let few : length (reverse c.args.order.now) < 9223372036854775808 = omega (arith, turned, c.type_inv.order) in
    tally_short c.args.apps.now (reverse c.args.order.now) c.as_slice.result.now 9223372036854775808 is few

pub returns-clause-order : goal.returns-clause-order
returns-clause-order c =
    let long : c.in_ok-tally.tally.len ≡ length c.args.apps.now = c.in_ok-tally.ensures.len in
    let each : c.in_ok-tally.tally.len ≡ length c.add_ordered.new.tally = omega (arith, long, c.in_ok-add_ordered.ensures.tally.one_each) in
    let is : IsTally c.args.apps.now (reverse c.args.order.now) c.as_slice.result.now = rw (c.as_slice.ensures.value, whole_tally c.in_ok-tally.tally.len c.add_ordered.new.tally (drop (length c.add_ordered.new.tally) c.in_ok-tally.tally.items) each) c.in_ok-add_ordered.ensures.tally in
    c.in_ok-add_laps.ensures (reverse c.args.order.now) is ∙ ap (λ ps. ps ++ laps c.args.apps.now (reverse c.args.order.now) MAX_ACTS) (c.in_ok-add_ordered.ensures.places ∙ ap (λ ps. ps ++ ordered c.args.apps.now (reverse c.args.order.now)) c.new-places.ensures.items)

pub returns-clause-within : goal.returns-clause-within
returns-clause-within c =
    let long : c.in_ok-tally.tally.len ≡ length c.args.apps.now = c.in_ok-tally.ensures.len in
    let each : c.in_ok-tally.tally.len ≡ length c.add_ordered.new.tally = omega (arith, long, c.in_ok-add_ordered.ensures.tally.one_each) in
    let is : IsTally c.args.apps.now (reverse c.args.order.now) c.as_slice.result.now = rw (c.as_slice.ensures.value, whole_tally c.in_ok-tally.tally.len c.add_ordered.new.tally (drop (length c.add_ordered.new.tally) c.in_ok-tally.tally.items) each) c.in_ok-add_ordered.ensures.tally in
    let same : c.add_laps.new.places.items ≡ schedule c.args.apps.now c.args.order.now =
    c.in_ok-add_laps.ensures (reverse c.args.order.now) is ∙ ap (λ ps. ps ++ laps c.args.apps.now (reverse c.args.order.now) MAX_ACTS) (c.in_ok-add_ordered.ensures.places ∙ ap (λ ps. ps ++ ordered c.args.apps.now (reverse c.args.order.now)) c.new-places.ensures.items) in
    subst (All (IsPlaceIn c.args.apps.now)) (sym same) (schedule_within c.args.apps.now c.args.order.now)

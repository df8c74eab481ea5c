use Rattle.std.proofs.Common.{◌≡◌, ◌+◌, ◌∙◌, ap, sym, true, false, None, length, drop}
use Rattle.std.specs.Prelude.{is_some}
use Rattle.st_serial.specs.Serial.{Run, groups_in, places_done as places_done_lem, states_of}
use Rattle.st_serial.proofs.Runs.{run_of, place_groups, place_count, places_next, places_full, none_full}
use Rattle.st_serial.proofs.serial.places_done.Goals as goal

pub returns-then-is_some : goal.returns-then-is_some
returns-then-is_some c =
    let apps = c.args.apps.now in
    let places = c.args.places.now in
    let i = c.loop-place.place-index in
    let more = run_of (states_of c.place_done.new.worlds) c.place_done.new.logs c.in_ok-full.full in
    let full : is_some c.in_ok-full.full ≡ true = sym c.is_some.ensures ∙ c.if-is_some.true in
    sym (places_full apps (drop (i + 1) places) more full)
    ∙ places_next apps places i _ (run_of (states_of c.loop-place.worlds) c.loop-place.logs None) more c.loop-place-test.true c.in_ok-full.ensures
    ∙ c.loop-place.invariant.past

pub loop-place-preserved : goal.loop-place-preserved
loop-place-preserved c =
    let apps = c.args.apps.now in
    let places = c.args.places.now in
    let i = c.loop-place.place-index in
    let run = run_of (states_of c.loop-place.worlds) c.loop-place.logs None in
    let more = run_of (states_of c.place_done.new.worlds) c.place_done.new.logs c.in_ok-full.full in
    let on : is_some c.in_ok-full.full ≡ false = sym c.is_some.ensures ∙ c.if-is_some.false in
    record {
      groups = ap (λ (r : Run). groups_in r.groups) c.in_ok-full.ensures ∙ place_groups apps _ run ∙ c.loop-place.invariant.groups;
      count = ap (λ (r : Run). length r.logs) c.in_ok-full.ensures ∙ place_count apps _ run ∙ c.loop-place.invariant.count;
      past = ap (λ full. places_done_lem apps (drop (i + 1) places) (run_of (states_of c.place_done.new.worlds) c.place_done.new.logs full)) (sym (none_full c.in_ok-full.full on))
          ∙ places_next apps places i _ run more c.loop-place-test.true c.in_ok-full.ensures
          ∙ c.loop-place.invariant.past;
    }

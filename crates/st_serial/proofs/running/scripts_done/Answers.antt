use Rattle.std.proofs.Common.{◌≡◌, ◌∙◌, length, drop, map, replicate, [], None, ap, sym, subst, refl}
use Rattle.st_net.specs.Faults.{group_of}
use Rattle.st_serial.specs.Schedule.{schedule as schedule_lem}
use Rattle.st_serial.specs.Serial.{Run, all_opened, opening_run, places_done as places_done_lem, AllFitIn, groups_in, states_of}
use Rattle.st_serial.proofs.Runs.{scripts_fit, opened_groups, places_groups, places_count, run_of, run_same, same_count}
use Rattle.st_serial.proofs.Worlds.{states_many}
use Rattle.st_serial.proofs.Lists.{whole, replicate_map}
use Rattle.st_serial.proofs.running.scripts_done.Goals as goal

pub places_done-requires-clause-fits : goal.places_done-requires-clause-fits
places_done-requires-clause-fits c =
    let doc = c.args.doc.now in
    let worlds = states_of c.as_mut_slice.result.now in
    let are : worlds ≡ all_opened doc.groups doc.wires = ap states_of c.as_mut_slice.ensures.value ∙ c.in_ok-worlds.ensures ∙ ap (λ gs. all_opened gs c.as_slice-3.result.now) c.as_slice-2.ensures ∙ ap (all_opened doc.groups) c.as_slice-3.ensures in
    let groups : groups_in worlds ≡ map group_of doc.groups = ap groups_in are ∙ opened_groups doc.groups doc.wires c.requires.wires in
    let here : AllFitIn doc.apps (groups_in worlds) = rw groups (scripts_fit doc c.requires) in
    subst (λ apps. AllFitIn apps (groups_in worlds)) (sym c.as_slice-apps.ensures) here

pub returns : goal.returns
returns c =
    let doc = c.args.doc.now in
    let ws = c.as_mut_slice.result.now in
    let ss = states_of ws in
    let ls = c.as_mut_slice-2.result.now in
    let apps = c.as_slice-apps.result.now in
    let places = c.as_slice-4.result.now in
    let worlds = c.in_ok-worlds.worlds in
    let logs = c.in_ok-logs.logs in
    let new = c.places_done.new in
    let full = c.in_ok-full.full in
    let done : run_of (states_of new.worlds) new.logs full ≡ places_done_lem apps places (run_of ss ls None) = c.in_ok-full.ensures in
    let many : length (states_of new.worlds) ≡ length ss = same_count ss (states_of new.worlds) (ap (λ (r : Run). groups_in r.groups) done ∙ places_groups apps places (run_of ss ls None)) in
    let worlds_long : worlds.len ≡ length new.worlds = sym c.as_mut_slice.ensures.len ∙ sym (states_many ws) ∙ sym many ∙ states_many new.worlds in
    let logs_long : logs.len ≡ length new.logs = sym c.as_mut_slice-2.ensures.len ∙ sym (ap (λ (r : Run). length r.logs) done ∙ places_count apps places (run_of ss ls None)) in
    let ss_are : ss ≡ all_opened doc.groups doc.wires = ap states_of c.as_mut_slice.ensures.value ∙ c.in_ok-worlds.ensures ∙ ap (λ gs. all_opened gs c.as_slice-3.result.now) c.as_slice-2.ensures ∙ ap (all_opened doc.groups) c.as_slice-3.ensures in
    let ls_are : ls ≡ map (λ app. []) doc.apps = c.as_mut_slice-2.ensures.value ∙ c.in_ok-logs.ensures ∙ ap (λ n. replicate n []) (ap length c.as_slice-apps.ensures) ∙ replicate_map [] doc.apps in
    run_same _ (states_of new.worlds) _ new.logs full full (ap states_of (whole worlds.len new.worlds (drop (length new.worlds) worlds.items) worlds_long)) (whole logs.len new.logs (drop (length new.logs) logs.items) logs_long) refl
    ∙ done
    ∙ ap (places_done_lem apps places) (run_same ss (all_opened doc.groups doc.wires) ls (map (λ app. []) doc.apps) None None ss_are ls_are refl)
    ∙ ap (λ ps. places_done_lem apps ps (opening_run doc)) (c.as_slice-4.ensures.value ∙ c.in_ok-places.ensures.order ∙ ap (schedule_lem apps) c.as_slice.ensures)
    ∙ ap (λ scripts. places_done_lem scripts (schedule_lem scripts doc.order) (opening_run doc)) c.as_slice-apps.ensures

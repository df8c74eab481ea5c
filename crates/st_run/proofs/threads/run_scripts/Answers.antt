-- The worlds of a sound document are at the opening of its groups, and each command of its scripts can be done on them.
use Rattle.std.proofs.Common.{◌≡◌, ◌<◌, ◌≤◌, List, All, length, refl, sym, ap, subst, ◌∙◌, arith}
use Rattle.std.specs.Prelude.{sum_by, ◌^◌}
use Rattle.std.proofs.lemmas.List.Sums.{sum_by-le}
use Rattle.st_net.specs.declared.parts.Parts.{Parts}
use Rattle.st_grammar.specs.declared.doc.Script.{Script}
use Rattle.st_grammar.specs.Sound.{IsSoundGroup}
use Rattle.st_serial.specs.Serial.{all_opened, states_of}
use Rattle.st_event.specs.declared.journal.Journal.{Journal}
use Rattle.st_run.specs.Running.{HasSmallNumbers}
use Rattle.st_run.specs.Played.{AllCanBeDone}
use Rattle.st_run.specs.Tasks.{tasks_by}
use Rattle.st_run.proofs.TaskLaws.{tasks_many}
use Rattle.st_run.proofs.OpenedWorlds.{can_be_done, group_named, opened_run, opened_worlds, own_lines, worlds_many}
use Rattle.st_run.proofs.threads.run_scripts.Goals as goal

pub open_worlds-requires-clause-sound : goal.open_worlds-requires-clause-sound
open_worlds-requires-clause-sound g c = subst (λ (groups : List Parts). All IsSoundGroup groups) (sym c.as_slice.ensures) c.requires.groups

pub open_worlds-requires-clause-each : goal.open_worlds-requires-clause-each
open_worlds-requires-clause-each g c = ap length c.as_slice-2.ensures ∙ c.requires.wires ∙ sym (ap length c.as_slice.ensures)

-- the commands of all scripts are few
few_acts : (apps : List Script) → length apps ≤ 32 → All (λ (app : Script). length app.acts ≤ 1024) apps → sum_by (λ (app : Script). length app.acts) apps < 2 ^ 32
few_acts apps few each = omega (arith, sum_by-le (λ (app : Script). length app.acts) 1024 apps each, few)

pub tasks_of-requires-clause-rooms : goal.tasks_of-requires-clause-rooms
tasks_of-requires-clause-rooms g c =
    let doc = c.args.doc.now in
    let ws = c.in_ok-worlds.worlds.items in
    let are : states_of ws ≡ all_opened doc.groups doc.wires = c.in_ok-worlds.ensures ∙ ap (λ gs. all_opened gs c.as_slice-2.result.now) c.as_slice.ensures ∙ ap (all_opened doc.groups) c.as_slice-2.ensures in
    let few : length doc.groups ≤ 16 = c.requires.few_groups in
    omega (arith, worlds_many doc ws c.requires are, few, c.len-rooms.ensures, c.in_ok-worlds.worlds.ok.0)

pub tasks_of-requires-clause-few : goal.tasks_of-requires-clause-few
tasks_of-requires-clause-few g c =
    let doc = c.args.doc.now in
    subst (λ (apps : List Script). sum_by (λ (app : Script). length app.acts) apps < 2 ^ 32) (sym c.as_slice-apps.ensures)
    (few_acts doc.apps c.requires.few_apps (λ k d lt. (c.requires.apps k d lt).few))

pub run_named-requires-clause-lines : goal.run_named-requires-clause-lines
run_named-requires-clause-lines g c =
    let lines = c.in_ok-lines.lines.items in
    let count : length lines ≡ c.len-rooms.result = c.in_ok-lines.ensures in
    λ κs lives. (omega (arith, count, c.len-rooms.ensures, c.in_ok-worlds.worlds.ok.0), own_lines lines)

pub run_named-requires-clause-worlds : goal.run_named-requires-clause-worlds
run_named-requires-clause-worlds g c =
    let doc = c.args.doc.now in
    let ws = c.in_ok-worlds.worlds.items in
    let are : states_of ws ≡ all_opened doc.groups doc.wires = c.in_ok-worlds.ensures ∙ ap (λ gs. all_opened gs c.as_slice-2.result.now) c.as_slice.ensures ∙ ap (all_opened doc.groups) c.as_slice-2.ensures in
    λ κs lives. opened_worlds doc ws are

pub run_named-requires-clause-ledger : goal.run_named-requires-clause-ledger
run_named-requires-clause-ledger g c = λ κs lives. (refl, refl)

pub run_named-requires-clause-parts : goal.run_named-requires-clause-parts
run_named-requires-clause-parts g c = λ κs lives. omega (arith, c.new-blank.ensures, c.len-rooms.ensures, c.in_ok-worlds.worlds.ok.0)

pub run_named-requires-clause-few : goal.run_named-requires-clause-few
run_named-requires-clause-few g c =
    let doc = c.args.doc.now in
    let ws = c.in_ok-worlds.worlds.items in
    let are : states_of ws ≡ all_opened doc.groups doc.wires = c.in_ok-worlds.ensures ∙ ap (λ gs. all_opened gs c.as_slice-2.result.now) c.as_slice.ensures ∙ ap (all_opened doc.groups) c.as_slice-2.ensures in
    let many = worlds_many doc ws c.requires are in
    let apps = ap length c.as_slice-apps.ensures in
    let few_groups : length doc.groups ≤ 16 = c.requires.few_groups in
    let few_apps : length doc.apps ≤ 32 = c.requires.few_apps in
    let rooms : c.len-rooms.result ≡ length ws = omega (arith, c.len-rooms.ensures, c.in_ok-worlds.worlds.ok.0) in
    let few_tasks = tasks_many c.as_slice-apps.result.now c.len-rooms.result in
    let tasks : length c.as_slice-tasks.result.now ≡ length (tasks_by c.as_slice-apps.result.now c.len-rooms.result) = ap length (c.as_slice-tasks.ensures.value ∙ c.in_ok-planned.ensures) in
    λ κs lives. (omega (arith, many, few_groups), omega (arith, apps, few_apps, tasks, few_tasks, rooms, many, few_groups))

pub run_named-requires-clause-tasks : goal.run_named-requires-clause-tasks
run_named-requires-clause-tasks g c =
    let rooms : c.len-rooms.result ≡ length c.in_ok-worlds.worlds.items = omega (arith, c.len-rooms.ensures, c.in_ok-worlds.worlds.ok.0) in
    λ κs lives. c.as_slice-tasks.ensures.value ∙ (c.in_ok-planned.ensures ∙ ap (tasks_by c.as_slice-apps.result.now) rooms)

pub run_named-requires-clause-acts : goal.run_named-requires-clause-acts
run_named-requires-clause-acts g c =
    let doc = c.args.doc.now in
    let ws = c.in_ok-worlds.worlds.items in
    let are : states_of ws ≡ all_opened doc.groups doc.wires = c.in_ok-worlds.ensures ∙ ap (λ gs. all_opened gs c.as_slice-2.result.now) c.as_slice.ensures ∙ ap (all_opened doc.groups) c.as_slice-2.ensures in
    λ κs lives. subst (λ (apps : List Script). AllCanBeDone (group_named ws) (length ws) apps) (sym c.as_slice-apps.ensures) (can_be_done doc ws c.requires are)

pub returns : goal.returns
returns g c =
    let doc = c.args.doc.now in
    let ws = c.in_ok-worlds.worlds.items in
    let apps = c.as_slice-apps.result.now in
    let are : states_of ws ≡ all_opened doc.groups doc.wires = c.in_ok-worlds.ensures ∙ ap (λ gs. all_opened gs c.as_slice-2.result.now) c.as_slice.ensures ∙ ap (all_opened doc.groups) c.as_slice-2.ensures in
    let played = c.in_ok-played.played in
    let small : All HasSmallNumbers played.journals.items = subst (λ (js : List Journal). All HasSmallNumbers js) c.as_slice-3.ensures.value c.all_numbered.ensures in
    opened_run doc ws apps played.full played.journals.items played.logs.items c.requires are c.as_slice-apps.ensures c.in_ok-played.ensures small

use Rattle.std.proofs.Common.{◌≡◌, ◌∙◌, ap, length, subst, arith}
use Rattle.st_replay.specs.Again.{AreKeptStates}
use Rattle.st_serial.specs.Serial.{Run, run_in}
use Rattle.st_serial.proofs.Runs.{serial_many}
use Rattle.st_serial.proofs.Worlds.{states_many}
use Rattle.st_top.specs.Reverting.{led_back, reverted}
use Rattle.st_top.proofs.HandedBack.{of_run, revert_told}
use Rattle.st_top.proofs.LedBack.{reverted_count, reverted_groups, reverted_many}
use Rattle.st_top.proofs.ending.revert_ending.Goals as goal

pub led_back-requires : goal.led_back-requires
led_back-requires c =
    let many = ap (λ (r : Run). length r.groups) c.in_ok-serial_done.ensures ∙ serial_many c.args.doc.now c.requires in
    omega (arith, many, states_many c.in_ok-serial_done.field-0.worlds.items, c.requires.few_groups)

pub logs_of-requires : goal.logs_of-requires
logs_of-requires c =
    let is : run_in c.in_ok-ran.field-0.ran ≡ reverted c.args.version c.args.doc.now = c.in_ok-ran.ensures.run_is ∙ ap (led_back c.args.version) c.in_ok-serial_done.ensures in
    let many = ap (λ (r : Run). length r.logs) is ∙ reverted_count c.args.version c.args.doc.now in
    omega (arith, many, c.requires.few_apps)

pub journals_of-requires : goal.journals_of-requires
journals_of-requires c =
    let is : run_in c.in_ok-ran.field-0.ran ≡ reverted c.args.version c.args.doc.now = c.in_ok-ran.ensures.run_is ∙ ap (led_back c.args.version) c.in_ok-serial_done.ensures in
    let many = ap (λ (r : Run). length r.groups) is ∙ reverted_many c.args.version c.args.doc.now c.requires in
    omega (arith, many, states_many c.in_ok-ran.field-0.ran.worlds.items, c.requires.few_groups)

pub returns : goal.returns
returns c =
    let doc = c.args.doc.now in
    let n = c.args.version in
    let is : run_in c.in_ok-ran.field-0.ran ≡ reverted n doc = c.in_ok-ran.ensures.run_is ∙ ap (led_back n) c.in_ok-serial_done.ensures in
    let journals = c.in_ok-journals_of.field-0 in
    let logs = c.in_ok-logs.logs in
    revert_told n doc (record { journals = journals; logs = logs }) c.in_ok-status.status c.in_ok-status.text c.requires
    (of_run doc (reverted n doc) (run_in c.in_ok-ran.field-0.ran) journals logs (reverted_groups n doc c.requires) is c.in_ok-journals_of.ensures.journals c.in_ok-journals_of.ensures.kept c.in_ok-logs.ensures)
    (subst (λ (r : Run). AreKeptStates r.groups) is c.in_ok-journals_of.ensures.kept)
    c.in_ok-status.ensures

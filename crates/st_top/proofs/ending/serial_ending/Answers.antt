use Rattle.std.proofs.Common.{◌∙◌, ap, length, arith}
use Rattle.st_serial.specs.Serial.{Run, run_in, serial_end}
use Rattle.st_serial.proofs.Runs.{serial_groups, serial_many, serial_count}
use Rattle.st_top.proofs.HandedBack.{of_run, serial_told}
use Rattle.st_serial.proofs.Worlds.{states_many}
use Rattle.st_top.proofs.ending.serial_ending.Goals as goal

pub logs_of-requires : goal.logs_of-requires
logs_of-requires c =
    let many = ap (λ (r : Run). length r.logs) c.in_ok-worlds.ensures ∙ serial_count c.args.doc.now in
    omega (arith, many, c.requires.few_apps)

pub journals_of-requires : goal.journals_of-requires
journals_of-requires c =
    let many = ap (λ (r : Run). length r.groups) c.in_ok-worlds.ensures ∙ serial_many c.args.doc.now c.requires in
    omega (arith, many, states_many c.in_ok-worlds.field-0.worlds.items, c.requires.few_groups)

pub returns : goal.returns
returns c =
    let doc = c.args.doc.now in
    let journals = c.in_ok-journals_of.field-0 in
    let logs = c.in_ok-logs.logs in
    serial_told c.args.showing doc (record { journals = journals; logs = logs }) c.in_ok-status.status c.in_ok-status.text c.requires
    (of_run doc (serial_end doc) (run_in c.in_ok-worlds.field-0) journals logs (serial_groups doc c.requires) c.in_ok-worlds.ensures c.in_ok-journals_of.ensures.journals c.in_ok-journals_of.ensures.kept c.in_ok-logs.ensures)
    c.in_ok-status.ensures

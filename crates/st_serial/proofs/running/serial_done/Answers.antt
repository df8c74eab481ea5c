use Rattle.std.proofs.Common.{ap, length, arith}
use Rattle.st_serial.specs.Serial.{Run}
use Rattle.st_serial.proofs.Runs.{scripts_many}
use Rattle.st_serial.proofs.Worlds.{states_many}
use Rattle.st_serial.proofs.running.serial_done.Goals as goal

pub decided-requires : goal.decided-requires
decided-requires c =
    let many = ap (λ (r : Run). length r.groups) c.in_ok-scripts_done.ensures in
    omega (arith, many, states_many c.in_ok-scripts_done.field-0.worlds.items, scripts_many c.args.doc.now c.requires, c.requires.few_groups)

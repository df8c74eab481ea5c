use Rattle.std.proofs.Common.{◌≡◌, take}
use Rattle.st_serial.specs.Serial.{all_opened, states_of}
use Rattle.st_serial.proofs.running.open_worlds.Given as goal

-- the groups so far are opened
abbrev pub invariant-loop-i : goal.invariant-loop-i
invariant-loop-i l = states_of l.worlds.items ≡ all_opened (take l.i l.groups) (take l.i l.wires)

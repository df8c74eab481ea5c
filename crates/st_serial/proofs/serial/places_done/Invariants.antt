use Rattle.std.proofs.Common.{◌≡◌, None, length, drop}
use Rattle.st_serial.specs.Serial.{places_done as places_done_lem, groups_in, states_of}
use Rattle.st_serial.proofs.Runs.{run_of}
use Rattle.st_serial.proofs.serial.places_done.Given as goal

-- the commands that are left lead to where all of them lead
abbrev pub invariant-loop-place : goal.invariant-loop-place
invariant-loop-place l = record {
  groups : groups_in (states_of l.worlds) ≡ groups_in (states_of l.fn.worlds);
  count : length l.logs ≡ length l.fn.logs;
  past : places_done_lem l.apps (drop l.place-index l.places) (run_of (states_of l.worlds) l.logs None) ≡ places_done_lem l.apps l.places (run_of (states_of l.fn.worlds) l.fn.logs None);
}

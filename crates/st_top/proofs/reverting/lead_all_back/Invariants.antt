use Rattle.std.proofs.Common.{◌≡◌, ◌++◌, drop, map}
use Rattle.st_text.specs.Words.{text_of}
use Rattle.st_serial.specs.Serial.{states_of}
use Rattle.st_top.specs.Reverting.{all_led_back, revert_words}
use Rattle.st_top.proofs.LedBack.{led_from}
use Rattle.st_top.proofs.reverting.lead_all_back.Given as goal

-- the groups so far were led back, and what comes and is told of those that are left is what comes and is told of all of them
abbrev pub invariant-loop-world : goal.invariant-loop-world
invariant-loop-world l = record {
  number : l.group ≡ l.world-index;
  past : all_led_back l.version 0 (states_of l.fn.worlds) ≡ led_from l.version l.world-index (states_of l.worlds);
  told : l.initial.out ++ text_of (map (revert_words l.version) (states_of l.fn.worlds)) ≡ l.out ++ text_of (map (revert_words l.version) (drop l.world-index (states_of l.worlds)));
}

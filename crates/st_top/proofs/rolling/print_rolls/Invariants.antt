use Rattle.std.proofs.Common.{◌≡◌, ◌++◌, take}
use Rattle.std.specs.Prelude.{flat_map}
use Rattle.st_text.specs.Words.{text_of}
use Rattle.st_report.specs.Lines.{histories}
use Rattle.st_top.specs.Rolling.{roll_lines}
use Rattle.st_top.proofs.rolling.print_rolls.Given as goal

-- the plans of the worlds so far
abbrev pub invariant-loop-world : goal.invariant-loop-world
invariant-loop-world l = l.out ≡ l.initial.out ++ text_of (flat_map (roll_lines l.apps l.firmware) (histories (take l.world-index l.worlds)))

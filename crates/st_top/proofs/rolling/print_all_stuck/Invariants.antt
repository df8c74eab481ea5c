use Rattle.std.proofs.Common.{◌≡◌, ◌++◌, map, take}
use Rattle.st_text.specs.Words.{text_of}
use Rattle.st_top.specs.Rolling.{stuck_words}
use Rattle.st_top.proofs.rolling.print_all_stuck.Given as goal

abbrev pub invariant-loop-one : goal.invariant-loop-one
invariant-loop-one l = l.out ≡ l.initial.out ++ text_of (map (stuck_words l.topo l.apps) (take l.one-index l.stuck))

use Rattle.std.proofs.Common.{◌≡◌, ◌++◌, map, take}
use Rattle.st_text.specs.Words.{text_of}
use Rattle.st_top.specs.Rolling.{same_words}
use Rattle.st_top.proofs.rolling.print_all_same.Given as goal

abbrev pub invariant-loop-device : goal.invariant-loop-device
invariant-loop-device l = l.out ≡ l.initial.out ++ text_of (map (same_words l.topo) (take l.device-index l.same))

use Rattle.std.proofs.Common.{◌≡◌, ◌++◌, map, take}
use Rattle.st_text.specs.Words.{text_of}
use Rattle.st_top.specs.Rolling.{left_words}
use Rattle.st_top.proofs.rolling.print_all_left.Given as goal

abbrev pub invariant-loop-one : goal.invariant-loop-one
invariant-loop-one l = l.out ≡ l.initial.out ++ text_of (map (left_words l.topo l.apps l.number) (take l.one-index l.left))

use Rattle.std.proofs.Common.{◌≡◌, ◌++◌, take}
use Rattle.st_text.specs.Words.{text_of}
use Rattle.st_top.specs.Rolling.{batches_lines}
use Rattle.st_top.proofs.rolling.print_batches.Given as goal

abbrev pub invariant-loop-i : goal.invariant-loop-i
invariant-loop-i l = l.out ≡ l.initial.out ++ text_of (batches_lines l.topo l.apps 1 (take l.i l.batches))

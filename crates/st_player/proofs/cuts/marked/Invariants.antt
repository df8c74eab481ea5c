use Rattle.std.proofs.Common.{◌≡◌}
use Rattle.st_net.specs.Cuts.{numbers_in}
use Rattle.st_player.specs.Cuts.{is_marked}
use Rattle.st_player.proofs.cuts.marked.Given as goal

-- the numbers so far
abbrev pub invariant-loop-d : goal.invariant-loop-d
invariant-loop-d l = l.numbers.items ≡ numbers_in l.d (is_marked l.marks)

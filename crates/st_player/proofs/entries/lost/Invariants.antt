use Rattle.std.proofs.Common.{◌≡◌, ◌++◌, drop}
use Rattle.st_player.specs.Entries.{lost_from}
use Rattle.st_player.proofs.entries.lost.Given as goal

-- what the marks so far give, with those that are left
abbrev pub invariant-loop-i : goal.invariant-loop-i
invariant-loop-i l = l.numbers.items ++ lost_from l.i (drop l.i l.before) (drop l.i l.after) ≡ lost_from 0 l.before l.after

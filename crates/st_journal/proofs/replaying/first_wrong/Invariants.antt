use Rattle.st_journal.proofs.ReplayLemmas.{WentThrough}
use Rattle.st_journal.proofs.replaying.first_wrong.Given as goal

-- the world has gone through the entries so far
abbrev pub invariant-loop-i : goal.invariant-loop-i
invariant-loop-i l = WentThrough l.fn.world.history.group l.entries l.i l.world

use Rattle.st_journal.proofs.ReplayLemmas.{went_wrong, unsaid}
use Rattle.st_journal.proofs.replaying.first_wrong.Goals as goal

pub returns-then-not-branch : goal.returns-then-not-branch
returns-then-not-branch c =
    went_wrong c.args.world.now.history.group c.args.entries.now c.loop-i.i c.loop-i.world c.is_replied.new.world c.index-entries-i.result c.loop-i.invariant c.loop-i-test.true c.index-entries-i.is
    (unsaid _ _ c.in_ok-is_replied.ensures.same c.if-not-branch.true) c.in_ok-is_replied.ensures.entered c.is_legal.ensures.legal

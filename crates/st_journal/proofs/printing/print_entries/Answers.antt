use Rattle.std.proofs.Common.{arith}
use Rattle.st_journal.proofs.PrintLemmas.{entry_added}
use Rattle.st_journal.proofs.printing.print_entries.Goals as goal

pub loop-i-preserved : goal.loop-i-preserved
loop-i-preserved c = entry_added c.args.topo.now c.args.apps.now c.args.entries.now c.loop-i.i _ _ _ _ _ c.loop-i-test.true c.index-entries-i.is (omega arith) c.loop-i.invariant c.in_ok-print_entry.ensures

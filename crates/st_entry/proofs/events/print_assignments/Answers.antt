use Rattle.std.proofs.Common.{refl}
use Rattle.st_text.proofs.PrintLemmas.{by_next, words_by}
use Rattle.st_entry.specs.Words.{assignment}
use Rattle.st_entry.proofs.events.print_assignments.Goals as goal

pub loop-row-preserved : goal.loop-row-preserved
loop-row-preserved c = by_next _ _ (words_by (assignment c.args.topo.now)) _ _ _ _ _ _ _ c.loop-row-test.true refl c.loop-row.invariant (rw (c.entity_name-name.ensures, c.var_word.ensures) at c.in_ok-print_word.ensures.ok)

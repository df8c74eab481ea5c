use Rattle.std.proofs.Common.{refl}
use Rattle.st_text.proofs.PrintLemmas.{by_next, words_by}
use Rattle.st_token.specs.Words.{assignment_word}
use Rattle.st_doc.specs.Printed.{entity_word}
use Rattle.st_doc.proofs.printing.acts.print_assignments.Goals as goal

pub loop-row-preserved : goal.loop-row-preserved
loop-row-preserved c = by_next _ _ (words_by (λ row. assignment_word (entity_word c.args.groups.now c.args.group row.entity) row.var row.value)) _ _ _ _ _ _ _ c.loop-row-test.true refl c.loop-row.invariant (rw (c.entity_name.ensures, c.var_word.ensures) at c.in_ok-print_word.ensures.ok)

use Rattle.std.specs.Prelude.{[], ◌∷◌, codes, decimal}
use Rattle.st_text.proofs.PrintLemmas.{ok_by}
use Rattle.st_doc.specs.Printed.{group_at, entity_word, value_words}
use Rattle.st_doc.proofs.TextLemmas.{line_ended}
use Rattle.st_doc.proofs.printing.acts.print_fail.Goals as goal

pub returns : goal.returns
returns c =
    ok_by c.word.result (λ end. line_ended _ _ _ _ (codes "fail") ((group_at c.args.groups.now c.args.group).name ∷ entity_word c.args.groups.now c.args.group c.args.entity ∷ decimal c.args.health ∷ []) (value_words c.args.rows.now)
    (rw (c.group_name.ensures, c.entity_name.ensures, c.from.ensures) at c.in_ok-begin_line.ensures.ok) c.in_ok-print_values.ensures end) c.word.ensures.ok

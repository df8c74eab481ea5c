use Rattle.std.specs.Prelude.{[], ◌∷◌, codes}
use Rattle.st_text.proofs.PrintLemmas.{ok_by}
use Rattle.st_doc.specs.Printed.{group_at, assignment_words}
use Rattle.st_doc.proofs.TextLemmas.{line_ended}
use Rattle.st_doc.proofs.printing.acts.print_propose.Goals as goal

pub returns : goal.returns
returns c =
    ok_by c.word.result (λ end. line_ended _ _ _ _ (codes "propose") ((group_at c.args.groups.now c.args.group).name ∷ []) (assignment_words c.args.groups.now c.args.group c.args.rows.now)
    (rw c.group_name.ensures at c.in_ok-begin_line.ensures.ok) c.in_ok-print_assignments.ensures end) c.word.ensures.ok

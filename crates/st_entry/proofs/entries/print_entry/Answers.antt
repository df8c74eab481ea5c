use Rattle.st_text.proofs.PrintLemmas.{ok_by}
use Rattle.st_entry.proofs.Lines.{line_added}
use Rattle.st_entry.proofs.entries.print_entry.Goals as goal

pub returns : goal.returns
returns c =
    ok_by c.word.result (λ end. line_added _ _ _ _ _ _ _ _ _ _ (rw c.from.ensures at c.in_ok-num.ensures.ok) c.in_ok-print_event.ensures c.in_ok-print_word.ensures.ok c.in_ok-print_reply.ensures end) c.word.ensures.ok

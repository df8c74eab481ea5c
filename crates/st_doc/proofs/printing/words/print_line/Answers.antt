use Rattle.std.proofs.Common.{◌++◌, ◌∙◌, ap, sym}
use Rattle.st_text.proofs.PrintLemmas.{line_bytes, ok_by}
use Rattle.st_doc.proofs.printing.words.print_line.Goals as goal

pub returns : goal.returns
returns c = ok_by c.print_line.result (λ all. all ∙ ap (λ t. c.args.out.now ++ t) (sym (line_bytes _ _))) c.print_line.ensures.ok

use Rattle.std.proofs.Common.{◌∙◌, ◌++◌, ◌∷◌, [], List, ap, codes}
use Rattle.std.specs.Prelude.{flat_map}
use Rattle.st_text.specs.Words.{line}
use Rattle.st_text.proofs.PrintLemmas.{ok_by}
use Rattle.st_report.specs.declared.report.Summary.{Summary}
use Rattle.st_report.specs.Inside.{summary_text, lines_behind}
use Rattle.st_report.proofs.Adding.{four_added}
use Rattle.st_report.proofs.text_report.print_report.Goals as goal

pub returns : goal.returns
returns c = ok_by c.print_line-2.result (λ last. four_added c.args.out.now c.print_line.new.out c.print_summaries.new.out c.print_lines.new.out c.print_line-2.new.out
    (line (codes "statesman") (codes "report" ∷ codes "1" ∷ [])) (flat_map summary_text c.args.report.now.groups.items) (lines_behind (codes "read") c.args.report.now.reads) (line (codes "end") [])
    c.in_ok-print_line.ensures.ok (c.in_ok-print_summaries.ensures ∙ ap (λ (ss : List Summary). c.print_line.new.out ++ flat_map summary_text ss) c.as_slice.ensures.value) c.in_ok-print_lines.ensures last) c.print_line-2.ensures.ok

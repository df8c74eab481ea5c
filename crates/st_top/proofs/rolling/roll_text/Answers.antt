use Rattle.std.proofs.Common.{[], ◌∷◌, ◌∙◌, ◌++◌, ap, codes}
use Rattle.std.specs.Prelude.{flat_map}
use Rattle.st_text.specs.Words.{line}
use Rattle.st_report.specs.Lines.{histories}
use Rattle.st_top.specs.Rolling.{roll_lines}
use Rattle.st_top.proofs.TextLines.{two_added, whole_added}
use Rattle.st_top.proofs.rolling.roll_text.Goals as goal

pub returns : goal.returns
returns c =
    let lines = flat_map (roll_lines c.args.apps.now c.args.firmware) (histories c.args.worlds.now) in
    let head = (codes "statesman" ∷ codes "roll" ∷ codes "1" ∷ []) ∷ [] in
    two_added [] c.print_rolls.new.out c.print_line-2.new.out (head ++ lines) ((codes "end" ∷ []) ∷ [])
    (two_added [] c.print_line.new.out c.print_rolls.new.out head lines
    (whole_added [] c.print_line.new.out (codes "statesman") (codes "roll" ∷ codes "1" ∷ []) (c.in_ok-print_line.ensures.ok ∙ ap (λ t. t ++ line (codes "statesman") (codes "roll" ∷ codes "1" ∷ [])) c.new-out.ensures))
    c.in_ok-print_rolls.ensures)
    (whole_added c.print_rolls.new.out c.print_line-2.new.out (codes "end") [] c.in_ok-print_line-2.ensures.ok)

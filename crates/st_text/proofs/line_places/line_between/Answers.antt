use Rattle.std.proofs.Common.{arith, eq-eqb}
use Rattle.std.proofs.lemmas.Bool.{ne_eqb}
use Rattle.st_text.proofs.LineLemmas.{cut_cr, cut_plain}
use Rattle.st_text.proofs.line_places.line_between.Goals as goal
use Rattle.st_text.proofs.line_places.line_between.Goals.{else-start-end-via-then-start-end+else-bytes-end-eq13, else-start-end-via-else-start-end}

pub returns-then-bytes-end-eq13 : goal.returns-then-bytes-end-eq13
returns-then-bytes-end-eq13 c =
    cut_cr c.args.bytes.now c.args.start c.args.end c.if-start-end.true c.requires.within (eq-eqb _ _ c.if-bytes-end-eq13.true)

pub returns : goal.returns
returns c = cut_plain c.args.bytes.now c.args.start c.args.end c.requires.order c.requires.within
    (λ less. elim c.else-start-end.branch [
      | else-start-end-via-then-start-end+else-bytes-end-eq13 w ↦ ne_eqb _ _ w.if-bytes-end-eq13.false
      | else-start-end-via-else-start-end w ↦ absurd (omega arith)
    ])

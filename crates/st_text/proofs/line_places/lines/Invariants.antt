use Rattle.st_text.proofs.LineLemmas.{LinesSoFar}
use Rattle.st_text.proofs.line_places.lines.Given as goal

abbrev pub invariant-loop-at : goal.invariant-loop-at
invariant-loop-at l = LinesSoFar l.bytes l.start l.at l.lines.items

use Rattle.st_text.proofs.TokenLemmas.{TokensSoFar}
use Rattle.st_text.proofs.token_places.tokens.Given as goal

abbrev pub invariant-loop-at : goal.invariant-loop-at
invariant-loop-at l = TokensSoFar l.line l.start l.at l.tokens.items

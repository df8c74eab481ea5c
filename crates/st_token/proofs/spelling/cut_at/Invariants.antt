use Rattle.std.proofs.Common.{◌≡◌, ◌++◌, drop, take, option_map}
use Rattle.st_token.specs.Places.{cut_at}
use Rattle.st_token.proofs.spelling.cut_at.Given as goal

abbrev pub invariant-loop-at : goal.invariant-loop-at
invariant-loop-at l = cut_at l.byte l.token ≡ option_map (λ p. (take l.at l.token ++ p.0, p.1)) (cut_at l.byte (drop l.at l.token))

use Rattle.std.proofs.Common.{◌≡◌, [], drop, map}
use Rattle.st_text.specs.Tokens.{token_in}
use Rattle.st_token.specs.Variables.{values_in}
use Rattle.st_token.proofs.values.values_in.Given as goal

-- what is left, behind what was read, gives what all gives
abbrev pub invariant-loop-token : goal.invariant-loop-token
invariant-loop-token l = values_in l.entity l.set (map (token_in l.line) (drop l.token-index l.tokens)) ≡ values_in l.entity [] (map (token_in l.line) l.tokens)

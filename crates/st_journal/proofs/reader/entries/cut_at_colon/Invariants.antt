use Rattle.std.proofs.Common.{◌≡◌, ◌++◌, drop, take, map, option_map}
use Rattle.st_text.specs.Tokens.{token_in}
use Rattle.st_journal.specs.EntryReading.{cut_at_colon}
use Rattle.st_journal.proofs.reader.entries.cut_at_colon.Given as goal

-- no token so far is `:`
abbrev pub invariant-loop-at : goal.invariant-loop-at
invariant-loop-at l = cut_at_colon (map (token_in l.line) l.tokens) ≡ option_map (λ p. (map (token_in l.line) (take l.at l.tokens) ++ p.0, p.1)) (cut_at_colon (map (token_in l.line) (drop l.at l.tokens)))

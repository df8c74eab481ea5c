use Rattle.std.proofs.Common.{◌≡◌, [], drop, map}
use Rattle.st_text.specs.Tokens.{token_in}
use Rattle.st_journal.specs.ReplyReading.{own_rows_in}
use Rattle.st_journal.proofs.reader.withdrawals.own_rows_in.Given as goal

-- what is left, behind what was read, gives what all gives
abbrev pub invariant-loop-token : goal.invariant-loop-token
invariant-loop-token l = own_rows_in l.topo l.entity l.rows.items (map (token_in l.line) (drop l.token-index l.tokens)) ≡ own_rows_in l.topo l.entity [] (map (token_in l.line) l.tokens)

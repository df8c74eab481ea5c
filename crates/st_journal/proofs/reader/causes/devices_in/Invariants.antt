use Rattle.std.proofs.Common.{◌≡◌, [], drop, map}
use Rattle.st_text.specs.Tokens.{token_in}
use Rattle.st_journal.specs.ReplyReading.{devices_in}
use Rattle.st_journal.proofs.reader.causes.devices_in.Given as goal

-- what is left, behind what was read, gives what all gives
abbrev pub invariant-loop-token : goal.invariant-loop-token
invariant-loop-token l = devices_in l.topo l.devices.items (map (token_in l.line) (drop l.token-index l.tokens)) ≡ devices_in l.topo [] (map (token_in l.line) l.tokens)

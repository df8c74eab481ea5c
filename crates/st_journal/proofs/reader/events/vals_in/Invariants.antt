use Rattle.std.proofs.Common.{◌≡◌, drop, map}
use Rattle.st_text.specs.Tokens.{token_in}
use Rattle.st_net.specs.Groups.{no_vals}
use Rattle.st_net.specs.Entities.{vars_of}
use Rattle.st_journal.specs.EventReading.{vals_in}
use Rattle.st_journal.proofs.reader.events.vals_in.Given as goal

-- what is left, over the values that were read, gives what all gives
abbrev pub invariant-loop-place : goal.invariant-loop-place
invariant-loop-place l = vals_in l.entity l.vals (drop l.place l.vars) (map (token_in l.line) (drop l.place l.tokens)) ≡ vals_in l.entity no_vals (vars_of l.entity) (map (token_in l.line) l.tokens)

use Rattle.std.proofs.Common.{sym, ◌∙◌}
use Rattle.st_text.specs.Tokens.{token_in}
use Rattle.st_journal.proofs.EventLemmas.{value_missing}
use Rattle.st_journal.proofs.reader.events.vals_in.Goals as goal

-- the tokens end before the variables
pub returns-then-place-tokens : goal.returns-then-place-tokens
returns-then-place-tokens c = sym c.loop-place.invariant ∙ value_missing (token_in c.args.line.now) c.args.entity c.loop-place.vals c.vars_of-vars.result.now c.args.tokens.now c.loop-place.place c.loop-place-test.true c.if-place-tokens.true

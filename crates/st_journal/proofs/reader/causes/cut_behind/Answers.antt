use Rattle.std.proofs.Common.{◌≤◌, ◌-◌, length, drop, arith, length-drop}
use Rattle.std.proofs.lemmas.List.{take_all}
use Rattle.st_text.specs.Tokens.{token_in}
use Rattle.st_journal.proofs.SideLemmas.{cut_few, cut_enough}
use Rattle.st_journal.proofs.reader.causes.cut_behind.Goals as goal

pub returns-then-tokens-count-clause-gives : goal.returns-then-tokens-count-clause-gives
returns-then-tokens-count-clause-gives c = cut_few (token_in c.args.line.now) c.args.count c.args.tokens.now c.if-tokens-count.true

pub returns-clause-gives : goal.returns-clause-gives
returns-clause-gives c =
    let rest : length (drop c.args.count c.args.tokens.now) ≤ length c.args.tokens.now - c.args.count = omega (arith, length-drop c.args.count c.args.tokens.now) in
    rw (take_all (length c.args.tokens.now - c.args.count) (drop c.args.count c.args.tokens.now) rest) (cut_enough (token_in c.args.line.now) c.args.count c.args.tokens.now c.if-tokens-count.false)

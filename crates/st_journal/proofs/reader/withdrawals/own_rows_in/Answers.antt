use Rattle.st_text.specs.declared.token_places.Token.{Token}
use Rattle.st_text.specs.Tokens.{token_in}
use Rattle.st_journal.proofs.OwnRows.{own_next}
use Rattle.st_journal.proofs.reader.withdrawals.own_rows_in.Goals as goal

abbrev no_token : Token
no_token = record { start = 0; end = 0 }

pub loop-token-preserved : goal.loop-token-preserved
loop-token-preserved c = own_next c.args.topo.now c.args.entity (token_in c.args.line.now) c.args.tokens.now c.loop-token.token-index no_token c.loop-token.rows.items _ c.loop-token-test.true c.loop-token.invariant _ _ c.in_ok-add_own_row.ensures.gives c.in_ok-add_own_row.ensures.added

use Rattle.st_text.specs.declared.token_places.Token.{Token}
use Rattle.st_text.specs.Tokens.{token_in}
use Rattle.st_token.proofs.RowRuns.{rows_next, within_next}
use Rattle.st_token.proofs.entities.rows_in.Goals as goal

abbrev no_token : Token
no_token = record { start = 0; end = 0 }

pub loop-token-preserved : goal.loop-token-preserved
loop-token-preserved g c = record {
  gives = rows_next (g.G.NamedEntities.find c.args.group.now) (token_in c.args.line.now) c.args.tokens.now c.loop-token.token-index no_token c.loop-token.set _ c.loop-token-test.true c.loop-token.invariant.gives _ _ c.in_ok-add_assignment.ensures.gives c.in_ok-add_assignment.ensures.added;
  within = within_next (λ row. g.G.NamedEntities.IsWithin c.args.group.now row.entity) c.loop-token.set _ _ c.in_ok-add_assignment.ensures.added c.loop-token.invariant.within c.in_ok-add_assignment.ensures.within;
}

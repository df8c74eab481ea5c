use Rattle.std.proofs.Common.{◌≡◌, [], drop, map}
use Rattle.std.specs.Prelude.{All}
use Rattle.st_text.specs.Tokens.{token_in}
use Rattle.st_token.specs.Variables.{rows_in}
use Rattle.st_token.proofs.entities.rows_in.Given as goal

-- what is left, behind what was read, gives what all gives; each row is on an entity of the group
abbrev pub invariant-loop-token : goal.invariant-loop-token
invariant-loop-token g l = record {
  gives : rows_in (g.G.NamedEntities.find l.group) l.set (map (token_in l.line) (drop l.token-index l.tokens)) ≡ rows_in (g.G.NamedEntities.find l.group) [] (map (token_in l.line) l.tokens);
  within : All (λ row. g.G.NamedEntities.IsWithin l.group row.entity) l.set;
}

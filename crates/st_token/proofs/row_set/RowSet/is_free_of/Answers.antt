use Rattle.st_token.proofs.RowLemmas.{free_is}
use Rattle.st_token.proofs.row_set.RowSet.is_free_of.Goals as goal

pub returns : goal.returns
returns c = free_is c.args.row.now _ _ _ _ _ c.self.invariant c.self.view_is c.variable_of.ensures c.has.ensures c.requires

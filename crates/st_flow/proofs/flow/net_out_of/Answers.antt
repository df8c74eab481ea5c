use Rattle.std.proofs.Common.{sym}
use Rattle.st_flow.proofs.Rows.{row_at-read, net_out_of-beyond}
use Rattle.st_flow.proofs.flow.net_out_of.Goals as goal

pub row_out-requires-clause-row : goal.row_out-requires-clause-row
row_out-requires-clause-row c =
    rw (c.as_slice.ensures.value, ← row_at-read c.args.rows.now c.args.x c.index-rows-x.result c.if-x-rows.true c.index-rows-x.is) (c.requires.rows c.args.x c.if-x-rows.true)

pub returns-else-x-rows : goal.returns-else-x-rows
returns-else-x-rows c = sym (net_out_of-beyond _ c.args.edges.now c.args.amounts.now c.args.x c.requires.edges_fit c.if-x-rows.false)

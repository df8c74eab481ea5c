use Rattle.std.proofs.Common.{arith}
use Rattle.st_overlay.proofs.Openings.{IsOpened, opened_whole, opened_vals, opened_values, opened_table}
use Rattle.st_overlay.proofs.table.Table.opening.Goals as goal

opened : (c : goal.After-loop-i-2) → IsOpened c.args.topo.now (record { devices = c.loop-i.devices.items; links = c.loop-i-2.links.items })
opened c = opened_whole c.args.topo.now _ c.loop-i-2.i c.loop-i-2.invariant.devices c.loop-i-2.invariant.links (omega arith)

pub returns-clause-of : goal.returns-clause-of
returns-clause-of c = opened_table c.args.topo.now _ (opened c)

pub returns-clause-vals : goal.returns-clause-vals
returns-clause-vals c = opened_vals c.args.topo.now _ (opened c)

pub returns-clause-values : goal.returns-clause-values
returns-clause-values c = opened_values c.args.topo.now _ (opened c)

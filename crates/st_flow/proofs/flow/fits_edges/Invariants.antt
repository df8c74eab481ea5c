use Rattle.std.proofs.Common.{ℕ, ◌<◌}
use Rattle.st_flow.specs.Network.{FitsEdge}
use Rattle.st_flow.specs.Residual.{edge_at, amount_at}
use Rattle.st_flow.proofs.flow.fits_edges.Given as goal

abbrev pub invariant-loop-i : goal.invariant-loop-i
invariant-loop-i l = (k : ℕ) → k < l.i → FitsEdge (edge_at l.edges k) (amount_at l.amounts k)

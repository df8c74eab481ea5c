use Rattle.std.proofs.Common.{◌≡◌, ◌*◌, take, pos, neg_ℤ, ◌≤ℤ◌}
use Rattle.st_flow.specs.Rows.{row_out}
use Rattle.st_flow.proofs.flow.row_out.Given as goal

abbrev pub invariant-loop-i : goal.invariant-loop-i
invariant-loop-i l = record {
  so_far : l.sum ≡ row_out l.edges l.amounts l.x (take l.i-index l.row);
  low : neg_ℤ (pos (2000000 * l.i-index)) ≤ℤ l.sum;
  high : l.sum ≤ℤ pos (2000000 * l.i-index);
}

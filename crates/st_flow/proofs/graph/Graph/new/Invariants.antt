use Rattle.std.proofs.Common.{◌≡◌, ℕ, [], length}
use Rattle.st_flow.specs.Rows.{row_at}
use Rattle.st_flow.proofs.graph.Graph.new.Given as goal

abbrev pub invariant-loop : goal.invariant-loop
invariant-loop l = record {
  len : length l.rows.items ≡ l.counter;
  none : (x : ℕ) → row_at l.rows.items x ≡ [];
}

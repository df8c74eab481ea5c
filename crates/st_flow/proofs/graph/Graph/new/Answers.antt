use Rattle.std.proofs.Common.{arith, [], ◌∷◌, length-append}
use Rattle.st_flow.proofs.Rows.{row_at-push}
use Rattle.st_flow.proofs.graph.Graph.new.Goals as goal

pub loop-preserved : goal.loop-preserved
loop-preserved c = rw c.in_ok-push.ensures.items (record {
  len = omega (arith, length-append c.loop.rows.items (c.new.result ∷ []), c.loop.invariant.len);
  none = λ x. row_at-push c.loop.rows.items c.new.result x c.new.ensures.items (c.loop.invariant.none x);
})

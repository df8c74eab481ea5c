use Rattle.std.proofs.Common.{◌≡◌, ◌≢◌, ℕ, length}
use Rattle.st_promise.specs.declared.kept_flow.Share.{Share}
use Rattle.st_promise.specs.FlowIndex.{IsEntered}
use Rattle.st_promise.proofs.flow_index.FlowIndex.take_out.Given as goal

abbrev pub invariant-loop-share : goal.invariant-loop-share
invariant-loop-share l = record {
  count : length l.self.lists.items ≡ length l.initial.self.lists.items;
  others : (j : ℕ) (s : Share) → j ≢ l.i → IsEntered l.initial.self.lists.items j s → IsEntered l.self.lists.items j s;
}

use Rattle.std.proofs.Common.{◌≡◌, ℕ, length, take, All}
use Rattle.st_promise.specs.declared.kept_flow.Share.{Share}
use Rattle.st_promise.specs.FlowIndex.{IsEntered}
use Rattle.st_promise.proofs.flow_index.FlowIndex.enter.Given as goal

abbrev pub invariant-loop-share : goal.invariant-loop-share
invariant-loop-share l = record {
  count : length l.self.lists.items ≡ length l.initial.self.lists.items;
  entered : All (IsEntered l.self.lists.items l.i) (take l.share-index l.flow.shares.items);
  kept : (j : ℕ) (s : Share) → IsEntered l.initial.self.lists.items j s → IsEntered l.self.lists.items j s;
}

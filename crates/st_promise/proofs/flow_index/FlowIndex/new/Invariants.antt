use Rattle.std.proofs.Common.{◌≡◌, length}
use Rattle.st_promise.proofs.flow_index.FlowIndex.new.Given as goal

abbrev pub invariant-loop : goal.invariant-loop
invariant-loop l = length l.lists.items ≡ l.counter

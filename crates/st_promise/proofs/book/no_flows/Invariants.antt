use Rattle.std.proofs.Common.{◌≡◌, replicate, None}
use Rattle.st_promise.proofs.book.no_flows.Given as goal

abbrev pub invariant-loop : goal.invariant-loop
invariant-loop l = l.flows.items ≡ replicate l.counter None

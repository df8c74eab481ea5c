use Rattle.std.proofs.Common.{◌≡◌, take}
use Rattle.st_net.specs.Asks.{asks}
use Rattle.st_promise.proofs.book.asks_of.Given as goal

abbrev pub invariant-loop-i : goal.invariant-loop-i
invariant-loop-i l = l.those.items ≡ take l.i (asks l.topo)

use Rattle.std.proofs.Common.{◌≡◌, map, take}
use Rattle.st_net.specs.Promises.{need_of}
use Rattle.st_net.specs.Asks.{asks}
use Rattle.st_promise.proofs.book.needs_of.Given as goal

abbrev pub invariant-loop-i : goal.invariant-loop-i
invariant-loop-i l = l.needs.items ≡ map (need_of l.topo) (take l.i (asks l.topo))

use Rattle.std.proofs.Common.{◌≡◌, map, take, IfSome}
use Rattle.st_net.specs.Sets.{is_in}
use Rattle.st_net.specs.Promises.{is_kept}
use Rattle.st_net.specs.Asks.{asks}
use Rattle.st_promise.specs.UpNetwork.{up_network}
use Rattle.st_promise.proofs.book.Book.asks_held_in.Given as goal

abbrev pub invariant-loop-i : goal.invariant-loop-i
invariant-loop-i l = record {
  network : IfSome l.network (λ n. n ≡ up_network l.topo (is_in l.up));
  held : l.held.items ≡ map (is_kept l.topo (is_in l.up)) (take l.i (asks l.topo));
}

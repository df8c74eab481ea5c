use Rattle.std.proofs.Common.{◌≡◌, drop, IfSome}
use Rattle.st_net.specs.Sets.{is_in}
use Rattle.st_net.specs.Promises.{first_broken}
use Rattle.st_promise.specs.UpNetwork.{up_network}
use Rattle.st_promise.specs.Book.{AreFailing, HasNotFallen}
use Rattle.st_promise.proofs.book.Book.first_broken.Given as goal

abbrev pub invariant-loop-i : goal.invariant-loop-i
invariant-loop-i l = record {
  same : l.self.of ≡ l.initial.self.of;
  runs : HasNotFallen l.initial.self l.self;
  before_network : IfSome l.before_network (λ n. n ≡ up_network l.topo (is_in l.before));
  after_network : IfSome l.after_network (λ n. n ≡ up_network l.topo (is_in l.after));
  fails : AreFailing l.topo (is_in l.before) l.fails;
  later : first_broken l.topo (is_in l.before) (is_in l.after) l.i (drop l.i l.topo.promises) ≡ first_broken l.topo (is_in l.before) (is_in l.after) 0 l.topo.promises;
}

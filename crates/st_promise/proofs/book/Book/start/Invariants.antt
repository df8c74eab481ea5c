use Rattle.std.proofs.Common.{◌≡◌}
use Rattle.st_promise.specs.Book.{IsBookOf}
use Rattle.st_promise.proofs.book.Book.start.Given as goal

abbrev pub invariant-loop-i : goal.invariant-loop-i
invariant-loop-i l = record {
  book : IsBookOf l.topo l.book.of;
  no_runs : l.book.flows_run ≡ 0;
}

use Rattle.st_promise.specs.Book.{IsBookOf}
use Rattle.st_tests_groups.proofs.promises.changes.judge_by.Given as goal

abbrev pub invariant-loop : goal.invariant-loop
invariant-loop g l = IsBookOf l.topo l.book.of

use Rattle.std.proofs.Common.{◌≡◌}
use Rattle.st_flow.specs.Residual.{turned}
use Rattle.st_flow.specs.Search.{IsApart}
use Rattle.st_flow.proofs.SearchLemmas.{IsLooking, IsVisiting}
use Rattle.st_flow.proofs.search.Search.step.Given as goal

abbrev pub invariant-loop-i : goal.invariant-loop-i
invariant-loop-i l = record {
  start : l.self.start ≡ l.fn.self.start;
  next : l.self.next ≡ l.fn.self.next;
  looking : IsLooking l.g l.edges (turned l.direction l.amounts) l.fn.self l.row l.x;
  visiting : IsVisiting l.g l.edges (turned l.direction l.amounts) l.fn.self l.row l.x l.i-index l.self.marks.items l.self.queue.items;
  apart : IsApart l.self.marks.items l.across;
}

use Rattle.std.proofs.Common.{◌≡◌, ℕ, ◌<◌, length}
use Rattle.st_flow.specs.Search.{no_mark, mark_at}
use Rattle.st_flow.proofs.search.Search.forget.Given as goal

abbrev pub invariant-loop-y : goal.invariant-loop-y
invariant-loop-y l = record {
  start : l.self.start ≡ l.fn.self.start;
  next : l.self.next ≡ l.fn.self.next;
  nodes : length l.self.marks.items ≡ length l.fn.self.marks.items;
  blank : (k : ℕ) → k < l.y → mark_at l.self.marks.items k ≡ no_mark;
}

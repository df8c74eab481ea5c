-- The passes below the next one have their places, and the others wait for a reader each.
use Rattle.std.proofs.Common.{◌≡◌, ℕ, ◌+◌, ◌<◌, ◌≤◌, All, length, get_or}
use Rattle.st_board.specs.Published.{opening_on}
use Rattle.st_service.specs.Opened.{IsFresh}
use Rattle.st_service.specs.Passes.{Holder}
use Rattle.st_service.proofs.start.seat_all.Given as goal

abbrev pub invariant-loop-reader : goal.invariant-loop-reader
invariant-loop-reader g l = record {
  count : l.next + length l.reader-iterator.rest.items ≡ length l.fn.passes;
  same : length l.passes ≡ length l.fn.passes;
  readers : All (λ r. r ≡ opening_on (g.J.Naming.board l.group) (g.J.Naming.group l.group)) l.reader-iterator.rest.items;
  seated : (n : ℕ) (p : Holder) → n < l.next → IsFresh n (l.group + 1) (get_or l.passes n p);
  waiting : (n : ℕ) (p : Holder) → l.next ≤ n → n < length l.passes → IsFresh n l.group (get_or l.passes n p);
}

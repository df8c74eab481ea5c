use Rattle.std.proofs.Common.{◌≡◌, ℕ, ◌<◌, length}
use Rattle.std.specs.Prelude.{true, false, slice_index_or}
use Rattle.st_net.specs.Promises.{is_kept}
use Rattle.st_net.specs.Sets.{is_in}
use Rattle.st_net.specs.Asks.{ask_of}
use Rattle.st_promise.proofs.book.Book.shown_in.Given as goal

abbrev pub invariant-loop-i : goal.invariant-loop-i
invariant-loop-i l = record {
  count : length l.shown.items ≡ l.i;
  kept : (k : ℕ) → k < l.i → slice_index_or l.shown.items k false ≡ true → is_kept l.topo (is_in l.up) (ask_of l.topo k) ≡ true;
}

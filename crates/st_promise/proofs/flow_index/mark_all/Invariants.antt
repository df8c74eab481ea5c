use Rattle.std.proofs.Common.{◌≡◌, ℕ, ◌<◌, length, take, true}
use Rattle.std.specs.Prelude.{false, slice_index_or}
use Rattle.st_promise.specs.Reach.{is_member}
use Rattle.st_promise.proofs.flow_index.mark_all.Given as goal

abbrev pub invariant-loop-ask : goal.invariant-loop-ask
invariant-loop-ask l = record {
  count : length l.marks ≡ length l.initial.marks;
  marked : (i : ℕ) → i < length l.initial.marks → is_member (take l.ask-index l.asks) i ≡ true → slice_index_or l.marks i false ≡ true;
  kept : (i : ℕ) → slice_index_or l.initial.marks i false ≡ true → slice_index_or l.marks i false ≡ true;
}

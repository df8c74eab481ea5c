-- So many passes were made, and each has taken a part.
use Rattle.std.proofs.Common.{◌≡◌, ℕ, ◌+◌, ◌<◌, ◌≤◌, length, get_or, vec_capacity}
use Rattle.st_service.specs.Opened.{IsFresh}
use Rattle.st_service.specs.Passes.{Holder}
use Rattle.st_service.proofs.start.new_passes.Given as goal

abbrev pub invariant-loop-number : goal.invariant-loop-number
invariant-loop-number g l = record {
  count : length l.all.items ≡ l.number;
  room : l.passes ≤ vec_capacity l.all;
  parts : l.own.parts + l.number ≡ l.fn.own.parts;
  amount : l.own.amount ≡ l.fn.own.amount;
  fresh : (n : ℕ) (p : Holder) → n < length l.all.items → IsFresh n 0 (get_or l.all.items n p);
}

use Rattle.std.proofs.Common.{◌≡◌, ℕ, ◌+◌, ◌*◌, ◌++◌, ◌<◌, length, get_or, sum_by}
use Rattle.st_service.specs.Lines.{flat}
use Rattle.st_service.proofs.close.shut_all.Given as goal

-- the rooms so far are ended, and their units are back
abbrev pub invariant-loop-room : goal.invariant-loop-room
invariant-loop-room g l = record {
  all : l.fn.rooms.items ≡ l.yielded ++ l.room-iterator.rest.items;
  count : length l.shut.items ≡ length l.yielded;
  groups : (k : ℕ) (d : _) → k < length l.shut.items → (get_or l.shut.items k d).group ≡ k;
  parts : l.own.parts ≡ l.initial.own.parts + length l.yielded;
  units : l.own.amount + sum_by (λ s. length (flat s.line.log)) l.shut.items ≡ l.initial.own.amount + 200000 * length l.yielded;
}

use Rattle.std.proofs.Common.{◌≡◌, ℕ, ◌+◌, ◌++◌, ◌<◌, length, map, get_or, sum_by}
use Rattle.st_service.specs.Closed.{Stands, entered}
use Rattle.st_service.specs.Lines.{flat}
use Rattle.st_service.specs.Passes.{Holder}
use Rattle.st_service.proofs.ClosingLaws.{AreLogs}
use Rattle.st_service.proofs.close.hand_in_all.Given as goal

-- the passes so far stand in all rooms, whose lines are as they were, what they had is taken in, and the logs of the first are kept
abbrev pub invariant-loop-pass : goal.invariant-loop-pass
invariant-loop-pass g l = record {
  all : l.fn.passes.items ≡ l.yielded ++ l.pass-iterator.rest.items;
  groups : map (λ s. s.group) l.shut ≡ map (λ s. s.group) l.initial.shut;
  lines : map (λ s. s.line) l.shut ≡ map (λ s. s.line) l.initial.shut;
  stands : (n : ℕ) (p : Holder) (k : ℕ) (d : _) → n < length l.yielded → k < length l.initial.shut → Stands (get_or l.yielded n p) (flat (get_or l.initial.shut k d).line.log) k;
  lengths : (n : ℕ) (p : Holder) → n < length l.yielded → length (get_or l.yielded n p).mines ≡ length l.initial.shut;
  parts : l.own.parts ≡ l.initial.own.parts + length l.yielded;
  amount : l.own.amount ≡ l.initial.own.amount + sum_by entered l.yielded;
  logs : AreLogs l.apps l.yielded l.logs.items;
}

use Rattle.std.proofs.Common.{ℕ, ◌≡◌, ◌<◌, length, get_or}
use Rattle.st_service.specs.Passes.{Holder}
use Rattle.st_tests_rooms.proofs.services.stage.are_passes_of.Given as goal

abbrev pub invariant-loop-n : goal.invariant-loop-n
invariant-loop-n g l = (k : ℕ) (p : Holder) → k < l.n → ((get_or l.passes k p).number ≡ k) × (length (get_or l.passes k p).fronts ≡ 1)

use Rattle.std.proofs.Common.{◌≡◌, ℕ, ◌<◌, false, get_or}
use Rattle.st_player.specs.declared.state.State.{State}
use Rattle.st_player.specs.Pictures.{is_same_state}
use Rattle.st_player.proofs.openings.kind_in.Given as goal

-- none so far is the same
abbrev pub invariant-loop-i : goal.invariant-loop-i
invariant-loop-i l = (k : ℕ) (d : State) → k < l.i → is_same_state (get_or l.kinds k d) l.state ≡ false

use Rattle.std.proofs.Common.{◌≡◌, drop}
use Rattle.st_player.specs.Pictures.{kinds_of, kinds_on}
use Rattle.st_player.proofs.openings.kinds_of.Given as goal

-- what the states so far give, with those that are left
abbrev pub invariant-loop-state : goal.invariant-loop-state
invariant-loop-state l = kinds_on l.kinds.items (drop l.state-index l.states) ≡ kinds_of l.states

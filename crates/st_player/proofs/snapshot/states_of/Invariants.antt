use Rattle.std.proofs.Common.{◌≡◌, map, take}
use Rattle.st_net.specs.InOrder.{entities_of}
use Rattle.st_player.specs.States.{state_of}
use Rattle.st_player.proofs.snapshot.states_of.Given as goal

-- the entities so far
abbrev pub invariant-loop-place : goal.invariant-loop-place
invariant-loop-place l = l.states.items ≡ map (state_of l.playback.group l.playback.past) (take l.place (entities_of l.playback.group))

use Rattle.std.proofs.Common.{◌≡◌, map, take}
use Rattle.st_player.specs.Pictures.{kind_in}
use Rattle.st_player.proofs.openings.places_in.Given as goal

-- the places so far
abbrev pub invariant-loop-state : goal.invariant-loop-state
invariant-loop-state l = l.places.items ≡ map (kind_in l.kinds) (take l.state-index l.states)

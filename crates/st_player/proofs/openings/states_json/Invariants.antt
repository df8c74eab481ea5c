use Rattle.std.proofs.Common.{◌≡◌, map, take}
use Rattle.serde_json.specs.View.{view}
use Rattle.st_player.specs.Fields.{state_data}
use Rattle.st_player.proofs.openings.states_json.Given as goal

-- the states so far
abbrev pub invariant-loop-state : goal.invariant-loop-state
invariant-loop-state l = map view l.list ≡ map state_data (take l.state-index l.states)

use Rattle.std.proofs.Common.{◌≡◌, map, take}
use Rattle.std.specs.Prelude.{flat_map}
use Rattle.serde_json.specs.View.{view}
use Rattle.st_net.specs.InOrder.{entities_of}
use Rattle.st_player.specs.Causes.{sets_of}
use Rattle.st_player.proofs.causes.sets_json.Given as goal

-- the entities so far
abbrev pub invariant-loop-place : goal.invariant-loop-place
invariant-loop-place l = map view l.list ≡ flat_map (sets_of l.playback.group l.playback.past) (take l.place (entities_of l.playback.group))

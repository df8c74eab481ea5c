use Rattle.std.proofs.Common.{◌≡◌, map, take}
use Rattle.serde_json.specs.View.{view}
use Rattle.serde_json.specs.Data.{string}
use Rattle.st_player.proofs.pictures.apps_json.Given as goal

-- the names so far
abbrev pub invariant-loop-app : goal.invariant-loop-app
invariant-loop-app l = map view l.list ≡ map string (take l.app-index l.apps)

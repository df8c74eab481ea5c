use Rattle.std.proofs.Common.{◌≡◌, map, take}
use Rattle.serde_json.specs.View.{view}
use Rattle.st_player.specs.Json.{number_data}
use Rattle.st_player.proofs.safe_json.JsonList.of_numbers.Given as goal

-- the numbers so far
abbrev pub invariant-loop-n : goal.invariant-loop-n
invariant-loop-n l = map view l.list ≡ map number_data (take l.n-index l.numbers)

use Rattle.std.proofs.Common.{◌≡◌, map}
use Rattle.std.specs.List.{range_with_len}
use Rattle.serde_json.specs.View.{view}
use Rattle.st_player.specs.Pictures.{link_data}
use Rattle.st_player.proofs.parts.links_json.Given as goal

-- the parts so far
abbrev pub invariant-loop-i : goal.invariant-loop-i
invariant-loop-i l = map view l.list ≡ map (link_data l.topo) (range_with_len 0 l.i)

use Rattle.std.proofs.Common.{◌≡◌, map, take}
use Rattle.std.specs.List.{filter}
use Rattle.st_net.specs.InOrder.{entities_of, place_in}
use Rattle.st_player.specs.Entries.{has_row_on}
use Rattle.st_player.proofs.entries.on_rows.Given as goal

-- the entities so far
abbrev pub invariant-loop-place : goal.invariant-loop-place
invariant-loop-place l = l.numbers.items ≡ map (place_in l.topo) (filter (has_row_on l.rows) (take l.place (entities_of l.topo)))

use Rattle.std.proofs.Common.{◌≡◌, length, drop}
use Rattle.st_net.specs.InOrder.{entity_count}
use Rattle.st_player.specs.Origins.{set_origins}
use Rattle.st_player.proofs.origins.keep_rows.Given as goal

-- what the rows so far make, with those that are left
abbrev pub invariant-loop-row : goal.invariant-loop-row
invariant-loop-row l =
    (length l.origins ≡ entity_count l.topo)
    × (set_origins l.topo l.setter (drop l.row-index l.rows) l.origins ≡ set_origins l.topo l.setter l.rows l.fn.origins)

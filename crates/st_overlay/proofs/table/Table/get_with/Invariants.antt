use Rattle.std.proofs.Common.{◌≡◌, take}
use Rattle.st_net.specs.Entities.{vals_by}
use Rattle.st_net.specs.Merge.{target_with}
use Rattle.st_overlay.specs.Values.{vals_at, value_in}
use Rattle.st_overlay.proofs.table.Table.get_with.Given as goal

-- the rows so far are set in the entity's values
abbrev pub invariant-loop-row : goal.invariant-loop-row
invariant-loop-row l = l.vals ≡ vals_by l.e (vals_at l.self l.e) (target_with (value_in l.self) (take l.row-index l.rows) l.e)

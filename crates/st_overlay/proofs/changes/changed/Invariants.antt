use Rattle.std.proofs.Common.{◌≡◌, take}
use Rattle.st_net.specs.Sets.{is_in, MarksOf}
use Rattle.st_overlay.specs.Values.{value_in}
use Rattle.st_overlay.proofs.Alterations.{altered_among}
use Rattle.st_overlay.proofs.changes.changed.Given as goal

-- the altered entities of the rows so far are marked
abbrev pub invariant-loop-row : goal.invariant-loop-row
invariant-loop-row l = record {
  of : MarksOf l.topo l.set;
  altered : is_in l.set ≡ altered_among l.topo (value_in l.table) l.rows (take l.row-index l.rows);
}

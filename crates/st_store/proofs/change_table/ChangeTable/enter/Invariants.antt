use Rattle.std.proofs.Common.{◌≡◌, take}
use Rattle.std.specs.Prelude.{All}
use Rattle.st_store.specs.Changes.{entered, HasEntityOf}
use Rattle.st_store.specs.Rooms.{lists_of, IsReadyFor}
use Rattle.st_store.proofs.change_table.ChangeTable.enter.Given as goal

-- the rows so far are entered, and all rows can be entered without memory
abbrev pub invariant-loop-row : goal.invariant-loop-row
invariant-loop-row l = record {
  lists : lists_of l.self ≡ entered l.version l.table (lists_of l.fn.self) (take l.row-index l.rows);
  entities : All (HasEntityOf (lists_of l.self)) l.rows;
  ready : All (IsReadyFor l.version l.self) l.rows;
}

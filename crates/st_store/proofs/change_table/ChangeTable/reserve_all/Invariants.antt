use Rattle.std.proofs.Common.{◌≡◌, take}
use Rattle.std.specs.Prelude.{All}
use Rattle.st_store.specs.Rooms.{lists_of, HasRoomFor}
use Rattle.st_store.proofs.change_table.ChangeTable.reserve_all.Given as goal

-- there is room for the rows so far, and no change yet
abbrev pub invariant-loop-row : goal.invariant-loop-row
invariant-loop-row l = record {
  same : lists_of l.self ≡ lists_of l.fn.self;
  room : All (HasRoomFor l.self) (take l.row-index l.rows);
}

use Rattle.std.proofs.Common.{◌≡◌, List, take, arith, ◌∙◌, subst}
use Rattle.std.specs.Prelude.{All}
use Rattle.std.proofs.lemmas.List.{take_all}
use Rattle.st_net.specs.declared.entity.Row.{Row}
use Rattle.st_store.specs.Rooms.{HasRoomFor}
use Rattle.st_overlay.proofs.RowSets.{no_row}
use Rattle.st_store.proofs.RoomLaws.{room_next}
use Rattle.st_store.proofs.change_table.ChangeTable.reserve_all.Goals as goal

pub loop-row-preserved : goal.loop-row-preserved
loop-row-preserved c = record {
  same = c.reserve.ensures.same ∙ c.loop-row.invariant.same;
  room = room_next c.loop-row.self c.reserve.new.self c.args.rows.now c.loop-row.row-index no_row c.loop-row-test.true c.reserve.ensures.grown c.in_ok-reserve.ensures.room c.loop-row.invariant.room;
}

pub returns-clause-room : goal.returns-clause-room
returns-clause-room c =
    let whole : take c.loop-row.row-index c.args.rows.now ≡ c.args.rows.now = take_all _ _ (omega arith) in
    subst (λ (rows : List Row). All (HasRoomFor c.loop-row.self) rows) whole c.loop-row.invariant.room

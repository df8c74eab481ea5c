use Rattle.std.proofs.Common.{get_or, ap, ◌∙◌}
use Rattle.st_net.specs.declared.entity.Vals.{Vals}
use Rattle.st_store.specs.Changes.{change_set}
use Rattle.st_store.specs.Rooms.{lists_of}
use Rattle.st_overlay.proofs.RowSets.{no_row}
use Rattle.st_store.proofs.EntryLaws.{entered_next, HasEntities-change_set, ready_next}
use Rattle.st_store.proofs.change_table.ChangeTable.enter.Goals as goal

pub loop-row-preserved : goal.loop-row-preserved
loop-row-preserved c =
    let row = get_or c.args.rows.now c.loop-row.row-index no_row in
    record {
      lists = entered_next c.args.version c.args.table.now (lists_of c.args.self.now) (lists_of c.loop-row.self) (lists_of c.set.new.self) c.args.rows.now c.loop-row.row-index no_row c.loop-row-test.true c.loop-row.invariant.lists
          (c.set.ensures.lists ∙ ap (λ (vals : Vals). change_set (lists_of c.loop-row.self) row.entity (record { version = c.args.version; vals = vals })) c.get-vals.ensures);
      entities = HasEntities-change_set (lists_of c.loop-row.self) (lists_of c.set.new.self) row.entity _ c.args.rows.now c.set.ensures.lists c.loop-row.invariant.entities;
      ready = ready_next c.args.version c.loop-row.self c.set.new.self c.args.rows.now c.set.ensures.ready c.loop-row.invariant.ready;
    }

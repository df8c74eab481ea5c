use Rattle.st_store.proofs.RoomLaws.{unchanged_more}
use Rattle.st_store.proofs.change_table.no_changes.Goals as goal

pub loop-i-preserved : goal.loop-i-preserved
loop-i-preserved c = unchanged_more c.loop-i.lists.items c.push.new.self.items c.none.result c.loop-i._i c.loop-i.invariant c.none.ensures c.in_ok-push.ensures.items

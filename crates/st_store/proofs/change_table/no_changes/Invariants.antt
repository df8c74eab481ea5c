use Rattle.std.proofs.Common.{◌≡◌, [], map, replicate}
use Rattle.st_store.specs.Rooms.{changes_in}
use Rattle.st_store.proofs.change_table.no_changes.Given as goal

-- so many lists without a change
abbrev pub invariant-loop-i : goal.invariant-loop-i
invariant-loop-i l = map changes_in l.lists.items ≡ replicate l._i []

use Rattle.std.proofs.Common.{◌≡◌, drop}
use Rattle.st_journal.specs.ReplyReading.{is_behind_each}
use Rattle.st_journal.proofs.reader.withdrawals.is_behind_each.Given as goal

-- the variable stands behind those of the rows so far
abbrev pub invariant-loop-row : goal.invariant-loop-row
invariant-loop-row l = is_behind_each (drop l.row-index l.rows) l.var ≡ is_behind_each l.rows l.var

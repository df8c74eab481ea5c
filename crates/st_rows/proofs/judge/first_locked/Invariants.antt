use Rattle.std.proofs.Common.{◌≡◌, drop}
use Rattle.st_event.specs.Judge.{first_locked}
use Rattle.st_locks.specs.LockRows.{holder_in}
use Rattle.st_rows.proofs.judge.first_locked.Given as goal

-- no row so far is locked out
abbrev pub invariant-loop-row : goal.invariant-loop-row
invariant-loop-row l = first_locked (holder_in l.locks) l.app (drop l.row-index l.rows) ≡ first_locked (holder_in l.locks) l.app l.rows

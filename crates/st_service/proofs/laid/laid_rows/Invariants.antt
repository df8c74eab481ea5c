use Rattle.std.proofs.Common.{◌≡◌, drop}
use Rattle.st_service.specs.Laid.{laid_by}
use Rattle.st_service.proofs.laid.laid_rows.Given as goal

-- what the entries that are left lay over the rows so far is what all lay
abbrev pub invariant-loop-entry : goal.invariant-loop-entry
invariant-loop-entry l = laid_by (drop l.entry-index l.entries) l.rows ≡ laid_by l.entries l.decided

use Rattle.std.proofs.Common.{◌≡◌, take}
use Rattle.st_overlay.specs.Values.{overlaid}
use Rattle.st_overlay.proofs.table.Table.overlay.Given as goal

-- the rows so far are set
abbrev pub invariant-loop-row : goal.invariant-loop-row
invariant-loop-row l = l.self ≡ overlaid l.fn.self (take l.row-index l.rows)

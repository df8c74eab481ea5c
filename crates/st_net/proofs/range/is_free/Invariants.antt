use Rattle.std.proofs.Common.{◌≡◌, drop}
use Rattle.st_net.specs.Ranges.{is_free_of}
use Rattle.st_net.proofs.range.is_free.Given as goal

abbrev pub invariant-loop-row : goal.invariant-loop-row
invariant-loop-row l = is_free_of l.entity l.var (drop l.row-index l.rows) ≡ is_free_of l.entity l.var l.rows

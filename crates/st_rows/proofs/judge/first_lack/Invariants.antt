use Rattle.std.proofs.Common.{◌≡◌, drop}
use Rattle.st_net.specs.Merge.{target_with}
use Rattle.st_event.specs.Judge.{first_lack}
use Rattle.st_overlay.specs.Values.{value_in}
use Rattle.st_net.specs.InOrder.{report_in}
use Rattle.st_rows.proofs.judge.first_lack.Given as goal

-- no row so far has a lack
abbrev pub invariant-loop-row : goal.invariant-loop-row
invariant-loop-row l = first_lack l.topo (report_in l.topo l.observed) (target_with (value_in l.table) l.rows) (drop l.row-index l.rows) ≡ first_lack l.topo (report_in l.topo l.observed) (target_with (value_in l.table) l.rows) l.rows

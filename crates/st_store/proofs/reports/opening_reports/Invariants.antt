use Rattle.std.proofs.Common.{◌≡◌, map, take}
use Rattle.st_net.specs.Reports.{opening_report}
use Rattle.st_net.specs.InOrder.{entities_of}
use Rattle.st_store.proofs.reports.opening_reports.Given as goal

-- each report so far is that of the opening
abbrev pub invariant-loop-place : goal.invariant-loop-place
invariant-loop-place l = l.reports.items ≡ map (opening_report l.topo) (take l.place (entities_of l.topo))

use Rattle.std.proofs.Common.{◌≡◌, true, take}
use Rattle.st_net.specs.Groups.{are_names}
use Rattle.st_report.proofs.names.are_names.Given as goal

abbrev pub invariant-loop-app : goal.invariant-loop-app
invariant-loop-app l = are_names (take l.app-index l.apps) ≡ true

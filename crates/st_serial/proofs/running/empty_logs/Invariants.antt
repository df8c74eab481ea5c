use Rattle.std.proofs.Common.{◌≡◌, [], replicate}
use Rattle.st_serial.proofs.running.empty_logs.Given as goal

abbrev pub invariant-loop-app : goal.invariant-loop-app
invariant-loop-app l = l.logs.items ≡ replicate l._app []

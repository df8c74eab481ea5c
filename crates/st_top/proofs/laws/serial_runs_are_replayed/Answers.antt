use Rattle.st_top.proofs.SerialRuns.{serial_runs_are_replayed}
use Rattle.st_top.proofs.laws.serial_runs_are_replayed.Goals as goal

pub returns : goal.returns
returns c = serial_runs_are_replayed

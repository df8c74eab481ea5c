use Rattle.st_top.proofs.PrintedRuns.{printed_runs_are_replayed}
use Rattle.st_top.proofs.laws.printed_runs_are_replayed.Goals as goal

pub returns : goal.returns
returns c = printed_runs_are_replayed

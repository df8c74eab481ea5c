use Rattle.st_top.proofs.ThreadRuns.{runs_by_threads_are_replayed}
use Rattle.st_top.proofs.laws.runs_by_threads_are_replayed.Goals as goal

pub returns : goal.returns
returns c = runs_by_threads_are_replayed

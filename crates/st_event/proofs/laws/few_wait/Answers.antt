use Rattle.st_event.proofs.LawLemmas.{few_wait}
use Rattle.st_event.proofs.laws.few_wait.Goals as goal

pub returns : goal.returns
returns c = few_wait

use Rattle.st_event.proofs.LawLemmas.{fence_stays}
use Rattle.st_event.proofs.laws.fences_never_fall.Goals as goal

pub returns : goal.returns
returns c = fence_stays

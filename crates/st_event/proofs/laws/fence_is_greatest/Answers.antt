use Rattle.st_event.proofs.LawLemmas.{fence_is}
use Rattle.st_event.proofs.laws.fence_is_greatest.Goals as goal

pub returns : goal.returns
returns c = fence_is

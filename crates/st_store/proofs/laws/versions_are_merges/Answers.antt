use Rattle.st_store.proofs.MergeSteps.{merged_of}
use Rattle.st_store.proofs.laws.versions_are_merges.Goals as goal

pub returns : goal.returns
returns c = merged_of

use Rattle.st_event.proofs.Ranges.{all_in_range}
use Rattle.st_event.proofs.laws.all_in_range.Goals as goal

pub returns : goal.returns
returns c = all_in_range

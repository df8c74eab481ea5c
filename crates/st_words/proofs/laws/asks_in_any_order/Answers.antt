use Rattle.st_words.proofs.JobLemmas.{any_order}
use Rattle.st_words.proofs.laws.asks_in_any_order.Goals as goal

pub returns : goal.returns
returns c = any_order

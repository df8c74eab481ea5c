use Rattle.st_text.proofs.ReadingBackLemmas.{tokens_cut_again}
use Rattle.st_text.proofs.reading_back.cuts_tokens_again.Goals as goal

pub returns : goal.returns
returns c = tokens_cut_again

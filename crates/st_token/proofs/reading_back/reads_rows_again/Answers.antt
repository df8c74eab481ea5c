use Rattle.st_token.proofs.ReadingBackLemmas.{rows_back}
use Rattle.st_token.proofs.reading_back.reads_rows_again.Goals as goal

pub returns : goal.returns
returns c = rows_back

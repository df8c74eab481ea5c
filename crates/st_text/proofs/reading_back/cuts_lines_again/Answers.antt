use Rattle.st_text.proofs.ReadingBackLemmas.{lines_cut_again}
use Rattle.st_text.proofs.reading_back.cuts_lines_again.Goals as goal

pub returns : goal.returns
returns c = lines_cut_again

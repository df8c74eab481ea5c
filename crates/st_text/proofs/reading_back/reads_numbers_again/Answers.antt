use Rattle.st_text.proofs.NumberLemmas.{numbers_again, printed_alone}
use Rattle.st_text.proofs.reading_back.reads_numbers_again.Goals as goal

pub returns-clause-again : goal.returns-clause-again
returns-clause-again c = numbers_again

pub returns-clause-alone : goal.returns-clause-alone
returns-clause-alone c = printed_alone

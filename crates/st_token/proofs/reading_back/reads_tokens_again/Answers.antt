use Rattle.st_token.proofs.ReadingBackLemmas.{names_again, numbers_again, locks_again}
use Rattle.st_token.proofs.reading_back.reads_tokens_again.Goals as goal

pub returns-clause-names : goal.returns-clause-names
returns-clause-names c = names_again

pub returns-clause-numbers : goal.returns-clause-numbers
returns-clause-numbers c = numbers_again

pub returns-clause-locks : goal.returns-clause-locks
returns-clause-locks c = locks_again

use Rattle.st_words.proofs.SpellingLemmas.{spelled_read, read_spelled}
use Rattle.st_words.proofs.laws.reads_spellings.Goals as goal

pub returns-clause-spelled : goal.returns-clause-spelled
returns-clause-spelled c = spelled_read

pub returns-clause-alone : goal.returns-clause-alone
returns-clause-alone c = read_spelled

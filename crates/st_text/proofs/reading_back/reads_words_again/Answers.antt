use Rattle.st_text.proofs.WordLemmas.{word_lines_cut_again, words_cut_again, words_allowed, number_word}
use Rattle.st_text.proofs.reading_back.reads_words_again.Goals as goal

pub returns-clause-lines : goal.returns-clause-lines
returns-clause-lines c = word_lines_cut_again

pub returns-clause-words : goal.returns-clause-words
returns-clause-words c = words_cut_again

pub returns-clause-allowed : goal.returns-clause-allowed
returns-clause-allowed c = words_allowed

pub returns-clause-numbers : goal.returns-clause-numbers
returns-clause-numbers c = number_word

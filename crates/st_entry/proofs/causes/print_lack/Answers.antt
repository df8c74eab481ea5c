use Rattle.st_entry.proofs.causes.print_lack.Goals as goal

pub returns-in-Level : goal.returns-in-Level
returns-in-Level c = rw c.in-Level.is (rw (c.word.ensures, c.entity_name.ensures, c.var_word.ensures, c.entity_name-in-Level.ensures, c.from.ensures, c.from-in-Level.ensures) at c.print_words.ensures.ok)

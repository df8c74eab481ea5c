use Rattle.st_journal.proofs.PrintedBack.{journals_print_back, journal_prints_back, each_prints_back}
use Rattle.st_journal.proofs.printing_back.prints_back.Goals as goal

pub returns-clause-in_order : goal.returns-clause-in_order
returns-clause-in_order c = journals_print_back

pub returns-clause-one : goal.returns-clause-one
returns-clause-one c = journal_prints_back

pub returns-clause-each : goal.returns-clause-each
returns-clause-each c = each_prints_back

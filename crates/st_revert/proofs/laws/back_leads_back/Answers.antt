use Rattle.st_revert.proofs.AskedLaws.{fits_of, is_asked}
use Rattle.st_revert.proofs.BackLaws.{leads_back, of_journal}
use Rattle.st_revert.proofs.WholeLaws.{leads_all_back}
use Rattle.st_revert.proofs.laws.back_leads_back.Goals as goal

pub returns-clause-leads_back : goal.returns-clause-leads_back
returns-clause-leads_back c = leads_back

pub returns-clause-leads_all_back : goal.returns-clause-leads_all_back
returns-clause-leads_all_back c = leads_all_back

pub returns-clause-of_journal : goal.returns-clause-of_journal
returns-clause-of_journal c = of_journal

pub returns-clause-fits : goal.returns-clause-fits
returns-clause-fits c = fits_of

pub returns-clause-asks : goal.returns-clause-asks
returns-clause-asks c = is_asked

use Rattle.st_event.proofs.Unnamed.{no_such_command, no_such_report}
use Rattle.st_event.proofs.laws.no_such_message.Goals as goal

pub returns-clause-command : goal.returns-clause-command
returns-clause-command c = no_such_command

pub returns-clause-report : goal.returns-clause-report
returns-clause-report c = no_such_report

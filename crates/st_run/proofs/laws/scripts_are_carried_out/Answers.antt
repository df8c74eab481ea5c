-- Scripts that passes have done were carried out, point by point.
use Rattle.st_run.proofs.DonePoints.{all_are_carried_out, each_is_carried_out}
use Rattle.st_run.proofs.LoggedReads.{scripts_are_logged}
use Rattle.st_run.proofs.laws.scripts_are_carried_out.Goals as goal

pub returns-clause-logs : goal.returns-clause-logs
returns-clause-logs c = scripts_are_logged

pub returns-clause-apps : goal.returns-clause-apps
returns-clause-apps c = each_is_carried_out

pub returns-clause-groups : goal.returns-clause-groups
returns-clause-groups c = all_are_carried_out

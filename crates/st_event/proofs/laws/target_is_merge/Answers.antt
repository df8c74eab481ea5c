use Rattle.std.proofs.Common.{refl}
use Rattle.st_event.proofs.LawLemmas.{accepted_moves}
use Rattle.st_event.proofs.Mixed.{overlays_listed}
use Rattle.st_event.proofs.Targets.{target_overlaid}
use Rattle.st_event.proofs.laws.target_is_merge.Goals as goal

pub returns-clause-opens : goal.returns-clause-opens
returns-clause-opens c = λ g e v. refl

pub returns-clause-overlaid : goal.returns-clause-overlaid
returns-clause-overlaid c = target_overlaid

pub returns-clause-listed : goal.returns-clause-listed
returns-clause-listed c = accepted_moves

pub returns-clause-mixed : goal.returns-clause-mixed
returns-clause-mixed c = overlays_listed

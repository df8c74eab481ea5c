use Rattle.st_overlay.proofs.Overlaying.{last_writers}
use Rattle.st_overlay.proofs.changes.last_writer_wins.Goals as goal

pub returns : goal.returns
returns c = last_writers

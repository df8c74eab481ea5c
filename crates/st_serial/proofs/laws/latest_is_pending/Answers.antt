use Rattle.st_serial.proofs.Latest.{latest_is_pending}
use Rattle.st_serial.proofs.laws.latest_is_pending.Goals as goal

pub returns : goal.returns
returns c = latest_is_pending

use Rattle.std.proofs.Common.{[], arith}
use Rattle.st_journal.proofs.SideLemmas.{devices_rise}
use Rattle.st_journal.proofs.reader.causes.side_in.Goals as goal

-- what was read ascends
pub from_slice-requires : goal.from_slice-requires
from_slice-requires c = rw c.as_slice-2.ensures.value (devices_rise c.args.topo.now _ [] c.in_ok-devices.devices.items (λ k less. absurd (omega arith)) c.in_ok-devices.ensures)

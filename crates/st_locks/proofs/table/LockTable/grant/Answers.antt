use Rattle.std.proofs.Common.{Some}
use Rattle.st_locks.proofs.LockSets.{holder_in-lock_set}
use Rattle.st_locks.proofs.table.LockTable.grant.Goals as goal

pub returns-in_default-clause-holders : goal.returns-in_default-clause-holders
returns-in_default-clause-holders c = holder_in-lock_set c.args.self.now c.set.new.self c.args.e c.args.prio (Some c.args.app) c.set.ensures c.requires

use Rattle.std.proofs.Common.{◌≡◌, eq-eqb}
use Rattle.std.specs.Prelude.{true}
use Rattle.st_net.specs.Holders.{is_held_by}
use Rattle.st_locks.specs.LockRows.{holder_in}
use Rattle.st_locks.proofs.LockSets.{holder_in-freed}
use Rattle.st_locks.proofs.table.LockTable.release.Goals as goal

pub returns-in-Some-clause-freed : goal.returns-in-Some-clause-freed
returns-in-Some-clause-freed c =
    let held : is_held_by c.args.app (holder_in c.args.self.now c.args.e c.args.prio) ≡ true = rw (← c.in-Some.ensures) (eq-eqb c.in-Some.holder.0 c.args.app.0 c.if-holder-app.true) in
    holder_in-freed c.args.self.now c.set.new.self c.args.e c.args.prio c.args.app c.set.ensures c.requires held

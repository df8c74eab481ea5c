-- What was judged has the ticket of its basis, which may be committed since.
use Rattle.std.proofs.Common.{ℕ, subst}
use Rattle.std.specs.Prelude.{IfOk}
use Rattle.st_service.specs.Made.{past_in}
use Rattle.st_service.specs.OffLock.{CommitsIn}
use Rattle.st_service.specs.Passes.{front_at, mine_at}
use Rattle.st_service.proofs.OffLockLaws.{judged_may}
use Rattle.st_service.proofs.service.Service.decide.Goals as goal

pub commit-requires-clause-may : goal.commit-requires-clause-may
commit-requires-clause-may g c =
    let n = c.args.group in
    judged_may (g.J.Naming.group n) (past_in (front_at c.args.pass.now.fronts n)) c.args.basis c.in-Ok.judged c.requires.basis c.in-Ok.ensures

pub returns-in-Ok-clause-committed : goal.returns-in-Ok-clause-committed
returns-in-Ok-clause-committed g c =
    let n = c.args.group in
    let old = c.args.pass.now in
    let new = c.commit.new.pass in
    subst (λ (t : ℕ). IfOk c.commit.result (λ committed. CommitsIn committed (g.J.Naming.group n) t old.number (front_at old.fronts n) (mine_at old.mines n) (front_at new.fronts n) (mine_at new.mines n))) c.in-Ok.ensures.ticket c.commit.ensures.committed

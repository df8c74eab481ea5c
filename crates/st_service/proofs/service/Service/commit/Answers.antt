-- The room that is held has the number that was asked for: so what the pass is told of the room that is held holds of the one that was asked for.
use Rattle.std.proofs.Common.{◌∙◌, ℕ, ap, subst}
use Rattle.std.specs.Prelude.{IfOk}
use Rattle.st_service.specs.Passes.{IsTaught}
use Rattle.st_service.proofs.service.Service.commit.Goals as goal

pub returns-clause-reads : goal.returns-clause-reads
returns-clause-reads g c =
    let here = ap (λ l. l.group) c.deref_mut.ensures.value ∙ c.in_ok-room.ensures.group in
    subst (λ (k : ℕ). IfOk c.commit_in.result (λ _. IsTaught c.commit_in.new.pass k)) here c.commit_in.ensures.reads

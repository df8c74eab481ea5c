-- The room that is held has the number that was asked for: so what the pass is told of the room that is held holds of the one that was asked for.
use Rattle.std.proofs.Common.{◌∙◌, ℕ, ap, subst}
use Rattle.std.specs.Prelude.{IfOk}
use Rattle.st_service.specs.Awaits.{BeginsFor}
use Rattle.st_service.specs.Made.{past_in}
use Rattle.st_service.specs.Passes.{front_at, IsTaught}
use Rattle.st_service.proofs.service.Service.begin_for.Goals as goal

pub returns-clause-begins : goal.returns-clause-begins
returns-clause-begins g c =
    let here = ap (λ l. l.group) c.deref_mut.ensures.value ∙ c.in_ok-room.ensures.group in
    subst (λ (k : ℕ). IfOk c.begin_for_in.result (BeginsFor c.args.ticket (g.J.Naming.group k) (past_in (front_at c.begin_for_in.new.pass.fronts k)))) here c.begin_for_in.ensures.begins

pub returns-clause-reads : goal.returns-clause-reads
returns-clause-reads g c =
    let here = ap (λ l. l.group) c.deref_mut.ensures.value ∙ c.in_ok-room.ensures.group in
    subst (λ (k : ℕ). IfOk c.begin_for_in.result (λ _. IsTaught c.begin_for_in.new.pass k)) here c.begin_for_in.ensures.reads

-- The room that is held has the number that was asked for: so what the pass is told of the room that is held holds of the one that was asked for.
use Rattle.std.proofs.Common.{◌∙◌, ℕ, ap, subst}
use Rattle.std.specs.Prelude.{IfOk, List}
use Rattle.st_control.proofs.StampLaws.{ok_map}
use Rattle.st_service.specs.Made.{Made}
use Rattle.st_service.specs.Lines.{flat}
use Rattle.st_service.specs.Passes.{front_at, mine_at, IsTaught}
use Rattle.st_service.specs.Puts.{Enters}
use Rattle.st_service.specs.Works.{course_at}
use Rattle.st_service.proofs.service.Service.work.Goals as goal

pub returns-clause-entered : goal.returns-clause-entered
returns-clause-entered g c =
    let here = ap (λ l. l.group) c.deref_mut.ensures.value ∙ c.in_ok-room.ensures.group in
    let pass = c.args.pass.now in
    let new = c.work_in.new.self in
    subst (λ (k : ℕ). IfOk c.work_in.result (λ going. (mid : List Made) × Enters (course_at pass.number c.args.work (g.J.Naming.group k) (g.J.Naming.lines k)) going pass.number mid (front_at pass.fronts k) (mine_at pass.mines k) (front_at new.fronts k) (mine_at new.mines k))) here (ok_map _ _ c.work_in.result (λ going enters. (flat c.deref_mut.result.now.makers.line.log, enters)) c.work_in.ensures.entered)

pub returns-clause-reads : goal.returns-clause-reads
returns-clause-reads g c =
    let here = ap (λ l. l.group) c.deref_mut.ensures.value ∙ c.in_ok-room.ensures.group in
    subst (λ (k : ℕ). IfOk c.work_in.result (λ _. IsTaught c.work_in.new.self k)) here c.work_in.ensures.reads

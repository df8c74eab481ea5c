-- The room that is held has the number that was asked for: so what the pass is told of the room that is held holds of the one that was asked for.
use Rattle.std.proofs.Common.{◌≡◌, ◌∙◌, ℕ, ap, sym, subst}
use Rattle.st_service.specs.Made.{past_in}
use Rattle.st_service.specs.Passes.{front_at, IsTaught}
use Rattle.st_service.proofs.HeldLaws.{if_any}
use Rattle.st_service.proofs.OffLockLaws.{begins_taught}
use Rattle.st_service.proofs.service.Service.begin.Goals as goal

pub returns-in-Ok-clause-begins : goal.returns-in-Ok-clause-begins
returns-in-Ok-clause-begins g c =
    let here = ap (λ l. l.group) c.deref_mut.ensures.value ∙ c.in_ok-room.ensures.group in
    let n = c.args.group in
    let room = c.deref.result.now in
    let new = c.look_in.new.self in
    let taught : past_in (front_at new.fronts n) ≡ room.room.history.past = subst (λ (k : ℕ). past_in (front_at new.fronts k) ≡ room.room.history.past) here (c.in-Ok.ensures.journal ∙ ap (λ l. l.room.history.past) (sym c.deref.ensures)) in
    begins_taught c.begin_check.result (g.J.Naming.group n) room.room.history (front_at new.fronts n) c.begin_check.ensures taught (room.group_is ∙ ap g.J.Naming.group (ap (λ l. l.group) c.deref.ensures ∙ (c.look_in.ensures.room.0 ∙ here)))

pub returns-in-Ok-clause-reads : goal.returns-in-Ok-clause-reads
returns-in-Ok-clause-reads g c =
    let here = ap (λ l. l.group) c.deref_mut.ensures.value ∙ c.in_ok-room.ensures.group in
    if_any c.begin_check.result (subst (λ (k : ℕ). IsTaught c.look_in.new.self k) here c.in-Ok.ensures.reads)

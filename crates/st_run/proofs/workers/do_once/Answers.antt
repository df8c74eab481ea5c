-- What a check or a half of a round tells says how far the pass came.
use Rattle.std.proofs.Common.{ℕ, ◌<◌, length, sym, subst, ◌∙◌}
use Rattle.st_run.specs.declared.application.Came.{Came}
use Rattle.st_run.specs.Duties.{DidOnce}
use Rattle.st_service.specs.declared.work.Part.TheVariants.{Update as update_half, Monitor as monitor_half}
use Rattle.st_run.specs.declared.workers.Duty.{Duty}
use Rattle.st_run.specs.declared.workers.Duty.TheVariants.{Check, Update, Monitor}
use Rattle.st_run.proofs.HalfLaws.{check_did, half_did}
use Rattle.st_run.proofs.workers.do_once.Goals as goal

pub returns-in-Update-clause-came : goal.returns-in-Update-clause-came
returns-in-Update-clause-came g c =
    let n = c.args.group in
    let old = c.args.pass.now in
    let new = c.update.new.pass in
    let h = g.J.Naming.group n in
    let lines = g.J.Naming.lines n in
    let kept = c.update.ensures.kept in
    let there : n < length new.fronts = subst (λ (k : ℕ). n < k) (sym (kept.rooms.0 ∙ c.requires.room.1)) c.requires.room.0 in
    subst (λ (duty : Duty). DidOnce c.came_by_half.result duty n h lines old new) (sym c.in-Update.is)
    (subst (λ (came : Came). DidOnce came Update n h lines old new) (sym c.came_by_half.ensures)
    (half_did c.update.result update_half h lines Update n old new there (λ r. r) (λ r. r) c.update.ensures.told))

pub returns-in-Monitor-clause-came : goal.returns-in-Monitor-clause-came
returns-in-Monitor-clause-came g c =
    let n = c.args.group in
    let old = c.args.pass.now in
    let new = c.monitor.new.pass in
    let h = g.J.Naming.group n in
    let lines = g.J.Naming.lines n in
    let kept = c.monitor.ensures.kept in
    let there : n < length new.fronts = subst (λ (k : ℕ). n < k) (sym (kept.rooms.0 ∙ c.requires.room.1)) c.requires.room.0 in
    subst (λ (duty : Duty). DidOnce c.came_by_half-in-Monitor.result duty n h lines old new) (sym c.in-Monitor.is)
    (subst (λ (came : Came). DidOnce came Monitor n h lines old new) (sym c.came_by_half-in-Monitor.ensures)
    (half_did c.monitor.result monitor_half h lines Monitor n old new there (λ r. r) (λ r. r) c.monitor.ensures.told))

pub returns-in-Check-clause-came : goal.returns-in-Check-clause-came
returns-in-Check-clause-came g c =
    let n = c.args.group in
    let old = c.args.pass.now in
    let new = c.check_off_lock.new.pass in
    let kept = c.check_off_lock.ensures.kept in
    let there : n < length new.fronts = subst (λ (k : ℕ). n < k) (sym (kept.rooms.0 ∙ c.requires.room.1)) c.requires.room.0 in
    subst (λ (duty : Duty). DidOnce c.came_by_check.result duty n (g.J.Naming.group n) (g.J.Naming.lines n) old new) (sym c.in-Check.is)
    (subst (λ (came : Came). DidOnce came Check n (g.J.Naming.group n) (g.J.Naming.lines n) old new) (sym c.came_by_check.ensures)
    (check_did c.check_off_lock.result (g.J.Naming.group n) (g.J.Naming.lines n) n old new there c.check_off_lock.ensures.checked))

-- A read of a version leaves with a pass what it saw, and one line more in its log.
use Rattle.std.proofs.Common.{sym, subst}
use Rattle.st_service.specs.Kept.{Kept}
use Rattle.st_service.specs.Passes.{Holder, IsTaught}
use Rattle.st_service.proofs.HeldLaws.{on_any}
use Rattle.st_service.proofs.HolderLaws.{kept_logged}
use Rattle.st_service.proofs.pass.Pass.read_at_in.Goals as goal

pub returns-clause-kept : goal.returns-clause-kept
returns-clause-kept g c =
    let n = c.args.room.now.group in
    let old = c.args.self.now in
    let log = c.add.new.self in
    subst (λ (h : Holder). Kept old (record h { log = log }) n 0) (sym c.self.view_is) (kept_logged old c.look_in.new.self n 0 log c.look_in.ensures.kept)

pub returns-clause-reads : goal.returns-clause-reads
returns-clause-reads g c = on_any c.add.result (subst (λ (h : Holder). IsTaught h c.args.room.now.group) (sym c.self.view_is) c.in_ok-look_in.ensures.reads)

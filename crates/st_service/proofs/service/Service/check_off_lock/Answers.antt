-- A check off the lock is the hold that takes a basis, and the hold that commits its ticket.
use Rattle.std.proofs.Common.{ℕ, sym, subst, ◌∙◌, arith}
use Rattle.st_control.specs.declared.control.commits.Begin.{Begin}
use Rattle.st_control.specs.declared.control.commits.Begin.TheVariants.{Idle}
use Rattle.st_world.specs.Commits.{Begins, IsBasisAt}
use Rattle.st_service.specs.declared.offlock.OffLock.{OffLock}
use Rattle.st_service.specs.Made.{past_in}
use Rattle.st_service.specs.OffLock.{ChecksOff, CommitsIn}
use Rattle.st_service.specs.Passes.{front_at, mine_at}
use Rattle.st_service.proofs.ChainLaws.{kept_on, same_mine}
use Rattle.st_service.proofs.OffLockLaws.{off_checks}
use Rattle.st_service.proofs.RoundChain.{kept_look}
use Rattle.st_service.proofs.service.Service.check_off_lock.Goals as goal

pub returns-in_err-begun-clause-kept : goal.returns-in_err-begun-clause-kept
returns-in_err-begun-clause-kept g c = kept_look c.args.pass.now c.begin.new.pass c.args.group 1 c.begin.ensures.kept

pub returns-in-Idle-clause-kept : goal.returns-in-Idle-clause-kept
returns-in-Idle-clause-kept g c = kept_look c.args.pass.now c.begin.new.pass c.args.group 1 c.begin.ensures.kept

pub returns-in_err-committed-in-Basis-clause-kept : goal.returns-in_err-committed-in-Basis-clause-kept
returns-in_err-committed-in-Basis-clause-kept g c = kept_on c.args.pass.now c.begin.new.pass c.decide.new.pass c.args.group 0 1 1 (omega arith) c.begin.ensures.kept c.decide.ensures.kept

pub returns-in_ok-committed-in-Basis-clause-kept : goal.returns-in_ok-committed-in-Basis-clause-kept
returns-in_ok-committed-in-Basis-clause-kept g c = kept_on c.args.pass.now c.begin.new.pass c.decide.new.pass c.args.group 0 1 1 (omega arith) c.begin.ensures.kept c.decide.ensures.kept

pub returns-in-Idle-clause-checked : goal.returns-in-Idle-clause-checked
returns-in-Idle-clause-checked g c =
    let old = c.args.pass.now in
    let new = c.begin.new.pass in
    let n = c.args.group in
    let grows = c.begin.ensures.kept.grows in
    let none : Begins (record { group = g.J.Naming.group n; past = past_in (front_at new.fronts n) }) Idle =
    subst (λ (b : Begin). Begins (record { group = g.J.Naming.group n; past = past_in (front_at new.fronts n) }) b) c.in-Idle.is c.in_ok-begun.ensures.begins in
    (grows.0, same_mine (front_at old.fronts n) (front_at new.fronts n) (mine_at old.mines n) (mine_at new.mines n) grows, none)

pub decide-requires-clause-room : goal.decide-requires-clause-room
decide-requires-clause-room g c = λ κs lives. (c.requires.room.0, c.begin.ensures.kept.rooms.0 ∙ c.requires.room.1)

pub decide-requires-clause-basis : goal.decide-requires-clause-basis
decide-requires-clause-basis g c =
    let n = c.args.group in
    λ κs lives. subst (λ (b : Begin). Begins (record { group = g.J.Naming.group n; past = past_in (front_at c.begin.new.pass.fronts n) }) b) c.in-Basis.is c.in_ok-begun.ensures.begins

pub returns-in_ok-committed-in-Basis-clause-checked : goal.returns-in_ok-committed-in-Basis-clause-checked
returns-in_ok-committed-in-Basis-clause-checked g c =
    let old = c.args.pass.now in
    let mid = c.begin.new.pass in
    let new = c.decide.new.pass in
    let n = c.args.group in
    let h = g.J.Naming.group n in
    let first = c.begin.ensures.kept in
    let later = c.decide.ensures.kept.grows.0 in
    let same = same_mine (front_at old.fronts n) (front_at mid.fronts n) (mine_at old.mines n) (mine_at mid.mines n) first.grows in
    let basis : IsBasisAt h (past_in (front_at mid.fronts n)) c.in-Basis.basis =
    subst (λ (b : Begin). Begins (record { group = h; past = past_in (front_at mid.fronts n) }) b) c.in-Basis.is c.in_ok-begun.ensures.begins in
    let own : CommitsIn c.in_ok-committed-in-Basis.committed h c.in-Basis.basis.ticket old.number (front_at mid.fronts n) (mine_at mid.mines n) (front_at new.fronts n) (mine_at new.mines n) =
    subst (λ (p : ℕ). CommitsIn c.in_ok-committed-in-Basis.committed h c.in-Basis.basis.ticket p (front_at mid.fronts n) (mine_at mid.mines n) (front_at new.fronts n) (mine_at new.mines n)) first.number c.in_ok-committed-in-Basis.ensures.committed in
    subst (λ (off : OffLock). ChecksOff off h old.number (front_at old.fronts n) (mine_at old.mines n) (front_at new.fronts n) (mine_at new.mines n)) (sym c.off_lock.ensures)
    (off_checks c.in_ok-committed-in-Basis.committed h c.in-Basis.basis old.number (front_at old.fronts n) (front_at mid.fronts n) (mine_at old.mines n) (mine_at mid.mines n) (front_at new.fronts n) (mine_at new.mines n) first.grows.0 same later basis own)

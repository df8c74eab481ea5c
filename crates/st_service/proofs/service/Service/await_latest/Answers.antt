-- Each check of an await decides a ticket more, so that after 64 the pass's own is decided.
use Rattle.std.proofs.Common.{◌≡◌, ℕ, suc, ◌+◌, subst, ◌∙◌, arith}
use Rattle.st_event.specs.declared.journal.TheConstants.{MAX_PENDING}
use Rattle.st_service.specs.declared.awaits.Checked.{Checked}
use Rattle.st_service.specs.declared.awaits.Checked.TheVariants.{Over}
use Rattle.st_service.specs.Awaits.{ChecksFor, WentOn, Waits}
use Rattle.st_service.specs.Passes.{front_at, mine_at}
use Rattle.st_service.specs.Tickets.{latest_in}
use Rattle.st_service.proofs.AwaitLaws.{given_later, fewer_left, awaits_of}
use Rattle.st_service.proofs.ChainLaws.{kept_on, waits_more, waits_later}
use Rattle.st_service.proofs.service.Service.await_latest.Goals as goal

pub check_for-requires-clause-given : goal.check_for-requires-clause-given
check_for-requires-clause-given g c =
    let n = c.args.group in
    λ κs lives. given_later c.in-Some.ticket (front_at c.args.pass.now.fronts n) (front_at c.loop-check.pass.fronts n) c.loop-check.invariant.kept.grows.0 c.in-Some.ensures.given

pub returns-in_err-check_for-clause-kept : goal.returns-in_err-check_for-clause-kept
returns-in_err-check_for-clause-kept g c = kept_on c.args.pass.now c.loop-check.pass c.check_for.new.pass c.args.group c.loop-check._check 1 MAX_PENDING (omega (arith, c.loop-check-test.true)) c.loop-check.invariant.kept c.check_for.ensures.kept

pub returns-in-Over-clause-kept : goal.returns-in-Over-clause-kept
returns-in-Over-clause-kept g c = kept_on c.args.pass.now c.loop-check.pass c.check_for.new.pass c.args.group c.loop-check._check 1 MAX_PENDING (omega (arith, c.loop-check-test.true)) c.loop-check.invariant.kept c.check_for.ensures.kept

pub returns-in-Full-clause-kept : goal.returns-in-Full-clause-kept
returns-in-Full-clause-kept g c = kept_on c.args.pass.now c.loop-check.pass c.check_for.new.pass c.args.group c.loop-check._check 1 MAX_PENDING (omega (arith, c.loop-check-test.true)) c.loop-check.invariant.kept c.check_for.ensures.kept

pub returns-in-Over-clause-awaited : goal.returns-in-Over-clause-awaited
returns-in-Over-clause-awaited g c =
    let old = c.args.pass.now in
    let mid = c.loop-check.pass in
    let new = c.check_for.new.pass in
    let n = c.args.group in
    let h = g.J.Naming.group n in
    let ticket = c.in-Some.ticket in
    let k = c.loop-check._check in
    let over : ChecksFor Over h ticket mid.number (front_at mid.fronts n) (mine_at mid.mines n) (front_at new.fronts n) (mine_at new.mines n) =
    subst (λ (checked : Checked). ChecksFor checked h ticket mid.number (front_at mid.fronts n) (mine_at mid.mines n) (front_at new.fronts n) (mine_at new.mines n)) c.in-Over.is c.in_ok-check_for.ensures.checked in
    let waits : Waits h ticket old.number k (front_at old.fronts n) (mine_at old.mines n) (front_at new.fronts n) (mine_at new.mines n) =
    waits_later h ticket old.number k (front_at old.fronts n) (front_at mid.fronts n) (front_at new.fronts n) (mine_at old.mines n) (mine_at mid.mines n) (mine_at new.mines n) c.loop-check.invariant.waits over.0 over.1 in
    awaits_of (latest_in (front_at old.fronts n) (mine_at old.mines n)) h ticket old.number (front_at old.fronts n) (mine_at old.mines n) (front_at new.fronts n) (mine_at new.mines n) c.in-Some.ensures.latest
    (k, omega (arith, c.loop-check-test.true), waits, over.2)

pub loop-check-preserved : goal.loop-check-preserved
loop-check-preserved g c =
    let old = c.args.pass.now in
    let mid = c.loop-check.pass in
    let new = c.check_for.new.pass in
    let n = c.args.group in
    let h = g.J.Naming.group n in
    let ticket = c.in-Some.ticket in
    let k = c.loop-check._check in
    let inv = c.loop-check.invariant in
    let next : suc k ≡ k + 1 = omega arith in
    let went : WentOn h ticket mid.number (front_at mid.fronts n) (mine_at mid.mines n) (front_at new.fronts n) (mine_at new.mines n) =
    subst (λ (checked : Checked). ChecksFor checked h ticket mid.number (front_at mid.fronts n) (mine_at mid.mines n) (front_at new.fronts n) (mine_at new.mines n)) c.in-Went.is c.in_ok-check_for.ensures.checked in
    let own : WentOn h ticket old.number (front_at mid.fronts n) (mine_at mid.mines n) (front_at new.fronts n) (mine_at new.mines n) =
    subst (λ (p : ℕ). WentOn h ticket p (front_at mid.fronts n) (mine_at mid.mines n) (front_at new.fronts n) (mine_at new.mines n)) inv.kept.number went in
    record {
      kept = kept_on old mid new n k 1 (k + 1) (omega arith) inv.kept c.check_for.ensures.kept;
      log = c.check_for.ensures.log ∙ inv.log;
      taught = λ some. c.in_ok-check_for.ensures.reads;
      waits = subst (λ (j : ℕ). Waits h ticket old.number j (front_at old.fronts n) (mine_at old.mines n) (front_at new.fronts n) (mine_at new.mines n)) next
          (waits_more h ticket old.number k (front_at old.fronts n) (front_at mid.fronts n) (front_at new.fronts n) (mine_at old.mines n) (mine_at mid.mines n) (mine_at new.mines n) inv.waits own);
      fewer = λ some. fewer_left h ticket old.number k (front_at mid.fronts n) (mine_at mid.mines n) (front_at new.fronts n) (mine_at new.mines n) own inv.fewer;
    }

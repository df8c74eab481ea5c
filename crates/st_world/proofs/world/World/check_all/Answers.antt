use Rattle.std.proofs.Common.{◌≡◌, true, sym, ◌∙◌}
use Rattle.st_event.specs.Proposals.{pending}
use Rattle.st_world.specs.Acts.{is_something}
use Rattle.st_world.proofs.ActLaws.{checking_starts, checks_end, check_goes, check_stops, check_parts, checks_all, nothing_waits, something_waits}
use Rattle.st_world.proofs.world.World.check_all.Goals as goal

pub loop-left-init : goal.loop-left-init
loop-left-init c = checking_starts is_something c.args.self.now

pub returns-then-pending-eq0-clause-ok : goal.returns-then-pending-eq0-clause-ok
returns-then-pending-eq0-clause-ok c = checks_end is_something c.args.self.now c.loop-left.self c.loop-left._left (nothing_waits (pending c.loop-left.self.history.past) (sym c.pending.ensures ∙ c.if-pending-eq0.true)) c.loop-left.invariant

pub returns-in_err-check_once-clause-err : goal.returns-in_err-check_once-clause-err
returns-in_err-check_once-clause-err c =
    let some : is_something (pending c.loop-left.self.history.past) ≡ true = something_waits (pending c.loop-left.self.history.past) (λ none. c.if-pending-eq0.false (c.pending.ensures ∙ none)) in
    check_parts c.from_residual.result is_something c.args.self.now c.loop-left.self c.check_once.new.self c.loop-left._left c.loop-left.invariant c.loop-left-test.true some c.in_err-check_once.ensures.err

pub returns-in-Full-clause-ok : goal.returns-in-Full-clause-ok
returns-in-Full-clause-ok c =
    let some : is_something (pending c.loop-left.self.history.past) ≡ true = something_waits (pending c.loop-left.self.history.past) (λ none. c.if-pending-eq0.false (c.pending.ensures ∙ none)) in
    check_stops is_something c.args.self.now c.loop-left.self c.check_once.new.self c.loop-left._left c.in_ok-check_once.field-0 c.loop-left.invariant c.loop-left-test.true some c.in_ok-check_once.ensures.ok c.in-Full.is

pub loop-left-preserved : goal.loop-left-preserved
loop-left-preserved c =
    let some : is_something (pending c.loop-left.self.history.past) ≡ true = something_waits (pending c.loop-left.self.history.past) (λ none. c.if-pending-eq0.false (c.pending.ensures ∙ none)) in
    check_goes is_something c.args.self.now c.loop-left.self c.check_once.new.self c.loop-left._left c.in_ok-check_once.field-0 c.loop-left.invariant c.loop-left-test.true some c.in_ok-check_once.ensures.ok c.in-On.is c.check_once.ensures.setting

pub returns-clause-ok : goal.returns-clause-ok
returns-clause-ok c = checks_all is_something c.args.self.now c.loop-left.self c.loop-left._left c.loop-left-test.false c.loop-left.invariant

use Rattle.std.proofs.Common.{sym, ◌∙◌}
use Rattle.st_world.specs.Acts.{has_one_of}
use Rattle.st_world.proofs.ActLaws.{checking_starts, checks_end, check_goes, check_stops, check_parts, checks_all}
use Rattle.st_world.proofs.world.World.await_latest.Goals as goal

pub loop-left-init : goal.loop-left-init
loop-left-init c = checking_starts (has_one_of c.args.app) c.args.self.now

pub returns-then-not-has_one_of-clause-ok : goal.returns-then-not-has_one_of-clause-ok
returns-then-not-has_one_of-clause-ok c = checks_end (has_one_of c.args.app) c.args.self.now c.loop-left.self c.loop-left._left (sym c.has_one_of.ensures ∙ c.if-not-has_one_of.true) c.loop-left.invariant

pub returns-in_err-check_once-clause-err : goal.returns-in_err-check_once-clause-err
returns-in_err-check_once-clause-err c = check_parts c.from_residual.result (has_one_of c.args.app) c.args.self.now c.loop-left.self c.check_once.new.self c.loop-left._left c.loop-left.invariant c.loop-left-test.true (sym c.has_one_of.ensures ∙ c.if-not-has_one_of.false) c.in_err-check_once.ensures.err

pub returns-in-Full-clause-ok : goal.returns-in-Full-clause-ok
returns-in-Full-clause-ok c = check_stops (has_one_of c.args.app) c.args.self.now c.loop-left.self c.check_once.new.self c.loop-left._left c.in_ok-check_once.field-0 c.loop-left.invariant c.loop-left-test.true (sym c.has_one_of.ensures ∙ c.if-not-has_one_of.false) c.in_ok-check_once.ensures.ok c.in-Full.is

pub loop-left-preserved : goal.loop-left-preserved
loop-left-preserved c = check_goes (has_one_of c.args.app) c.args.self.now c.loop-left.self c.check_once.new.self c.loop-left._left c.in_ok-check_once.field-0 c.loop-left.invariant c.loop-left-test.true (sym c.has_one_of.ensures ∙ c.if-not-has_one_of.false) c.in_ok-check_once.ensures.ok c.in-On.is c.check_once.ensures.setting

pub returns-clause-ok : goal.returns-clause-ok
returns-clause-ok c = checks_all (has_one_of c.args.app) c.args.self.now c.loop-left.self c.loop-left._left c.loop-left-test.false c.loop-left.invariant

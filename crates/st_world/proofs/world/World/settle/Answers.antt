use Rattle.st_world.proofs.ActLaws.{settling_starts, rounds_all, round_goes, round_settles, round_stops, round_parts}
use Rattle.st_world.proofs.world.World.settle.Goals as goal

pub loop-round-init : goal.loop-round-init
loop-round-init c = settling_starts c.args.rounds c.args.self.now

pub returns-in_err-round-clause-err : goal.returns-in_err-round-clause-err
returns-in_err-round-clause-err c = round_parts c.from_residual.result c.args.rounds c.args.self.now c.loop-round.self c.round.new.self c.loop-round._round c.loop-round.invariant c.loop-round-test.true c.in_err-round.ensures.err

pub returns-in-Did-eq0-clause-ok : goal.returns-in-Did-eq0-clause-ok
returns-in-Did-eq0-clause-ok c = round_settles c.args.rounds c.args.self.now c.loop-round.self c.round.new.self c.loop-round._round c.in_ok-round.field-0 c.in-Did-eq0.unsettled c.loop-round.invariant c.loop-round-test.true c.in-Did-eq0.is c.in-Did-eq0.unsettled-test c.in_ok-round.ensures.ok c.round.ensures.setting

pub returns-in-JournalFull-clause-ok : goal.returns-in-JournalFull-clause-ok
returns-in-JournalFull-clause-ok c = round_stops c.args.rounds c.args.self.now c.loop-round.self c.round.new.self c.loop-round._round c.in_ok-round.field-0 c.in-JournalFull.entries c.loop-round.invariant c.loop-round-test.true c.in-JournalFull.is c.in_ok-round.ensures.ok

pub loop-round-preserved : goal.loop-round-preserved
loop-round-preserved c = round_goes c.args.rounds c.args.self.now c.loop-round.self c.round.new.self c.loop-round._round c.in_ok-round.field-0 c.in-Did.unsettled c.loop-round.invariant c.loop-round-test.true c.in-Did.is c.in_ok-round.ensures.ok c.round.ensures.setting

pub returns-clause-ok : goal.returns-clause-ok
returns-clause-ok c = rounds_all c.args.rounds c.args.self.now c.loop-round.self c.loop-round._round c.loop-round-test.false c.loop-round.invariant

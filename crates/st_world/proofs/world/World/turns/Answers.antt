use Rattle.st_world.proofs.RoundLaws.{turn_goes, turn_stops, turn_parts}
use Rattle.st_world.proofs.world.World.turns.Goals as goal

pub returns-in_err-turn-clause-err : goal.returns-in_err-turn-clause-err
returns-in_err-turn-clause-err c = turn_parts c.from_residual.result c.args.self.now c.loop-entity.self c.turn.new.self c.args.entities.now c.loop-entity.entity-index c.loop-entity.invariant c.loop-entity-test.true c.in_err-turn.ensures.err

pub returns-in-Full-clause-ok : goal.returns-in-Full-clause-ok
returns-in-Full-clause-ok c = turn_stops c.args.self.now c.loop-entity.self c.turn.new.self c.args.entities.now c.loop-entity.entity-index c.in_ok-turn.field-0 c.loop-entity.invariant c.loop-entity-test.true c.in_ok-turn.ensures.ok c.in-Full.is

pub loop-entity-preserved : goal.loop-entity-preserved
loop-entity-preserved c = turn_goes c.args.self.now c.loop-entity.self c.turn.new.self c.args.entities.now c.loop-entity.entity-index c.in_ok-turn.field-0 c.loop-entity.invariant c.loop-entity-test.true c.in_ok-turn.ensures.ok c.in-On.is c.turn.ensures.setting

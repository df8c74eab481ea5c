use Rattle.st_world.specs.Rounds.{follow_ups}
use Rattle.st_world.proofs.RoundLaws.{no_follow_up_part}
use Rattle.st_world.proofs.world.World.enter_follow_ups.Goals as goal

pub returns-in_err-numbers-clause-err : goal.returns-in_err-numbers-clause-err
returns-in_err-numbers-clause-err c = no_follow_up_part c.from_residual.result c.args.self.now (follow_ups c.args.self.now.history.group c.args.self.now.lines c.args.self.now.history.past)

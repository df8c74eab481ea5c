use Rattle.std.proofs.Common.{refl}
use Rattle.st_world.specs.Rounds.{update_turn, course_from, course_with}
use Rattle.st_world.specs.declared.world.rounds.Going.TheVariants.{Full}
use Rattle.st_world.proofs.RunLaws.{update_turn-grows, poll-grows, poll-stopped}
use Rattle.st_world.proofs.RoundLaws.{part_more, part_whole, way_from, stops_there, polling}
use Rattle.st_world.proofs.world.World.turn.Goals as goal

pub returns-in_err-update_turn-clause-err : goal.returns-in_err-update_turn-clause-err
returns-in_err-update_turn-clause-err c =
    let first = update_turn c.args.self.now.history.group c.args.self.now.lines (course_from c.args.self.now.history.past) c.args.entity in
    part_more c.from_residual.result c.args.self.now c.update_turn.new.self first (polling c.args.entity c.args.self.now.history.group c.args.self.now.lines first) (poll-grows c.args.self.now.history.group c.args.self.now.lines first c.args.entity) c.in_err-update_turn.ensures.err

pub returns-in-On-clause-err : goal.returns-in-On-clause-err
returns-in-On-clause-err c =
    let first = update_turn c.args.self.now.history.group c.args.self.now.lines (course_from c.args.self.now.history.past) c.args.entity in
    let way = way_from (polling c.args.entity) c.args.self.now c.update_turn.new.self first c.in_ok-update_turn.field-0 (update_turn-grows c.args.self.now.history.group c.args.self.now.lines (course_from c.args.self.now.history.past) c.args.entity) c.in_ok-update_turn.ensures.ok c.in-On.is c.update_turn.ensures.setting in
    part_whole c.poll.result c.args.self.now c.update_turn.new.self c.poll.new.self _ _ way c.poll.ensures.err

pub returns-in-Full-clause-ok : goal.returns-in-Full-clause-ok
returns-in-Full-clause-ok c = stops_there (polling c.args.entity c.args.self.now.history.group c.args.self.now.lines) c.update_turn.new.self _ c.in_ok-update_turn.field-0 c.in_ok-update_turn.ensures.ok c.in-Full.is (poll-stopped c.args.self.now.history.group c.args.self.now.lines (course_with Full c.update_turn.new.self) c.args.entity refl)

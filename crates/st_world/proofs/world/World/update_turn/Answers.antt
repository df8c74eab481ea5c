use Rattle.std.proofs.Common.{refl}
use Rattle.st_event.specs.declared.event.Event.TheVariants.{Finish}
use Rattle.st_world.specs.Rounds.{send_turn, course_from, course_with}
use Rattle.st_world.specs.declared.world.rounds.Going.TheVariants.{Full}
use Rattle.st_world.proofs.RunLaws.{enter-grows, enter-stopped, send_turn-grows}
use Rattle.st_world.proofs.RoundLaws.{part_more, part_whole, way_from, stops_there, finishing}
use Rattle.st_world.proofs.world.World.update_turn.Goals as goal

pub returns-in_err-send_turn-clause-err : goal.returns-in_err-send_turn-clause-err
returns-in_err-send_turn-clause-err c =
    let first = send_turn c.args.self.now.history.group c.args.self.now.lines (course_from c.args.self.now.history.past) c.args.entity in
    part_more c.from_residual.result c.args.self.now c.send_turn.new.self first (finishing c.args.entity c.args.self.now.history.group c.args.self.now.lines first) (enter-grows c.args.self.now.history.group first (Finish c.args.entity)) c.in_err-send_turn.ensures.err

pub returns-in-On-clause-err : goal.returns-in-On-clause-err
returns-in-On-clause-err c =
    let first = send_turn c.args.self.now.history.group c.args.self.now.lines (course_from c.args.self.now.history.past) c.args.entity in
    let way = way_from (finishing c.args.entity) c.args.self.now c.send_turn.new.self first c.in_ok-send_turn.field-0 (send_turn-grows c.args.self.now.history.group c.args.self.now.lines (course_from c.args.self.now.history.past) c.args.entity) c.in_ok-send_turn.ensures.ok c.in-On.is c.send_turn.ensures.setting in
    part_whole c.enter.result c.args.self.now c.send_turn.new.self c.enter.new.self _ _ way c.enter.ensures.err

pub returns-in-Full-clause-ok : goal.returns-in-Full-clause-ok
returns-in-Full-clause-ok c = stops_there (finishing c.args.entity c.args.self.now.history.group c.args.self.now.lines) c.send_turn.new.self _ c.in_ok-send_turn.field-0 c.in_ok-send_turn.ensures.ok c.in-Full.is (enter-stopped c.args.self.now.history.group (course_with Full c.send_turn.new.self) (Finish c.args.entity) refl)

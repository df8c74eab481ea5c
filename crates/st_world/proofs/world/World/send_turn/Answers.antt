use Rattle.std.proofs.Common.{refl}
use Rattle.st_event.specs.declared.event.Event.TheVariants.{Send}
use Rattle.st_world.specs.Rounds.{enter_told, course_from, course_with}
use Rattle.st_world.specs.declared.world.rounds.Going.TheVariants.{Full}
use Rattle.st_world.proofs.RunLaws.{called_back-grows, called_back-stopped, enter_told-grows}
use Rattle.st_world.proofs.RoundLaws.{part_more, part_whole, way_from, stops_there, calling_back}
use Rattle.st_world.proofs.world.World.send_turn.Goals as goal

pub returns-in_err-enter_with_follow_ups-clause-err : goal.returns-in_err-enter_with_follow_ups-clause-err
returns-in_err-enter_with_follow_ups-clause-err c =
    let first = enter_told c.args.self.now.history.group c.args.self.now.lines (course_from c.args.self.now.history.past) (Send c.args.entity) in
    part_more c.from_residual.result c.args.self.now c.enter_with_follow_ups.new.self first (calling_back c.args.entity c.args.self.now.history.group c.args.self.now.lines first) (called_back-grows c.args.self.now.history.group first c.args.entity) c.in_err-enter_with_follow_ups.ensures.err

pub returns-in-On-clause-err : goal.returns-in-On-clause-err
returns-in-On-clause-err c =
    let first = enter_told c.args.self.now.history.group c.args.self.now.lines (course_from c.args.self.now.history.past) (Send c.args.entity) in
    let way = way_from (calling_back c.args.entity) c.args.self.now c.enter_with_follow_ups.new.self first c.in_ok-enter_with_follow_ups.field-0 (enter_told-grows c.args.self.now.history.group c.args.self.now.lines (course_from c.args.self.now.history.past) (Send c.args.entity)) c.in_ok-enter_with_follow_ups.ensures.ok c.in-On.is c.enter_with_follow_ups.ensures.setting in
    part_whole c.call_back.result c.args.self.now c.enter_with_follow_ups.new.self c.call_back.new.self _ _ way c.call_back.ensures.err

pub returns-in-Full-clause-ok : goal.returns-in-Full-clause-ok
returns-in-Full-clause-ok c = stops_there (calling_back c.args.entity c.args.self.now.history.group c.args.self.now.lines) c.enter_with_follow_ups.new.self _ c.in_ok-enter_with_follow_ups.field-0 c.in_ok-enter_with_follow_ups.ensures.ok c.in-Full.is (called_back-stopped c.args.self.now.history.group (course_with Full c.enter_with_follow_ups.new.self) c.args.entity refl)

use Rattle.std.proofs.Common.{refl}
use Rattle.st_event.specs.declared.event.Event.TheVariants.{Submit}
use Rattle.st_world.specs.Acts.{with_room}
use Rattle.st_world.specs.Rounds.{course_from, course_with}
use Rattle.st_world.specs.declared.world.rounds.Going.TheVariants.{Full}
use Rattle.st_world.proofs.RunLaws.{enter-grows, enter-stopped}
use Rattle.st_world.proofs.RoundLaws.{part_more, part_whole, way_from, stops_there}
use Rattle.st_world.proofs.ActLaws.{submitting, with_room-grows}
use Rattle.st_world.proofs.world.World.propose.Goals as goal

pub returns-in_err-make_room-clause-err : goal.returns-in_err-make_room-clause-err
returns-in_err-make_room-clause-err c =
    let g = c.args.self.now.history.group in
    let first = with_room g (course_from c.args.self.now.history.past) in
    part_more c.from_residual.result c.args.self.now c.make_room.new.self first (submitting c.args.app c.args.rows g c.args.self.now.lines first) (enter-grows g first (Submit c.args.app c.args.rows)) c.in_err-make_room.ensures.err

pub returns-in-On-clause-err : goal.returns-in-On-clause-err
returns-in-On-clause-err c =
    let g = c.args.self.now.history.group in
    let first = with_room g (course_from c.args.self.now.history.past) in
    let way = way_from (submitting c.args.app c.args.rows) c.args.self.now c.make_room.new.self first c.in_ok-make_room.field-0 (with_room-grows g (course_from c.args.self.now.history.past)) c.in_ok-make_room.ensures.ok c.in-On.is c.make_room.ensures.setting in
    part_whole c.enter.result c.args.self.now c.make_room.new.self c.enter.new.self _ _ way c.enter.ensures.err

pub returns-in-Full-clause-ok : goal.returns-in-Full-clause-ok
returns-in-Full-clause-ok c = stops_there (submitting c.args.app c.args.rows c.args.self.now.history.group c.args.self.now.lines) c.make_room.new.self _ c.in_ok-make_room.field-0 c.in_ok-make_room.ensures.ok c.in-Full.is (enter-stopped c.args.self.now.history.group (course_with Full c.make_room.new.self) (Submit c.args.app c.args.rows) refl)

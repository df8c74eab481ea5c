use Rattle.std.proofs.Common.{refl}
use Rattle.st_world.specs.Rounds.{enter, follow_ups, course_from, course_with}
use Rattle.st_world.specs.declared.world.rounds.Going.TheVariants.{Full}
use Rattle.st_world.proofs.RunLaws.{enter-grows, enter_all-grows, enter_all-stopped}
use Rattle.st_world.proofs.RoundLaws.{part_more, part_whole, way_from, stops_there, with_newest}
use Rattle.st_world.proofs.world.World.enter_with_follow_ups.Goals as goal

pub returns-in_err-enter-clause-err : goal.returns-in_err-enter-clause-err
returns-in_err-enter-clause-err c =
    let first = enter c.args.self.now.history.group (course_from c.args.self.now.history.past) c.args.event in
    part_more c.from_residual.result c.args.self.now c.enter.new.self first (with_newest c.args.self.now.history.group c.args.self.now.lines first) (enter_all-grows c.args.self.now.history.group first (follow_ups c.args.self.now.history.group c.args.self.now.lines first.past)) c.in_err-enter.ensures.err

pub returns-in-On-clause-err : goal.returns-in-On-clause-err
returns-in-On-clause-err c =
    let first = enter c.args.self.now.history.group (course_from c.args.self.now.history.past) c.args.event in
    let way = way_from with_newest c.args.self.now c.enter.new.self first c.in_ok-enter.field-0 (enter-grows c.args.self.now.history.group (course_from c.args.self.now.history.past) c.args.event) c.in_ok-enter.ensures.ok c.in-On.is c.enter.ensures.setting in
    part_whole c.enter_follow_ups.result c.args.self.now c.enter.new.self c.enter_follow_ups.new.self _ _ way c.enter_follow_ups.ensures.err

pub returns-in-Full-clause-ok : goal.returns-in-Full-clause-ok
returns-in-Full-clause-ok c =
    let past = (course_with Full c.enter.new.self).past in
    stops_there (with_newest c.args.self.now.history.group c.args.self.now.lines) c.enter.new.self _ c.in_ok-enter.field-0 c.in_ok-enter.ensures.ok c.in-Full.is (enter_all-stopped c.args.self.now.history.group (course_with Full c.enter.new.self) (follow_ups c.args.self.now.history.group c.args.self.now.lines past) refl)

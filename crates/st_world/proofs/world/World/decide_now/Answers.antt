use Rattle.std.proofs.Common.{refl}
use Rattle.st_event.specs.declared.event.Event.TheVariants.{Submit, Check}
use Rattle.st_world.specs.Rounds.{course_from, course_with, enter}
use Rattle.st_world.specs.declared.world.rounds.Going.TheVariants.{Full}
use Rattle.st_world.proofs.RunLaws.{enter-grows, enter-stopped}
use Rattle.st_world.proofs.RoundLaws.{part_more, part_whole, way_from, stops_there}
use Rattle.st_world.proofs.ActLaws.{checking}
use Rattle.st_world.proofs.world.World.decide_now.Goals as goal

pub returns-in_err-enter-clause-err : goal.returns-in_err-enter-clause-err
returns-in_err-enter-clause-err c =
    let g = c.args.self.now.history.group in
    let first = enter g (course_from c.args.self.now.history.past) (Submit c.args.app c.args.rows) in
    part_more c.from_residual.result c.args.self.now c.enter.new.self first (checking g c.args.self.now.lines first) (enter-grows g first Check) c.in_err-enter.ensures.err

pub returns-in-On-clause-err : goal.returns-in-On-clause-err
returns-in-On-clause-err c =
    let g = c.args.self.now.history.group in
    let start = course_from c.args.self.now.history.past in
    let first = enter g start (Submit c.args.app c.args.rows) in
    let way = way_from checking c.args.self.now c.enter.new.self first c.in_ok-enter.field-0 (enter-grows g start (Submit c.args.app c.args.rows)) c.in_ok-enter.ensures.ok c.in-On.is c.enter.ensures.setting in
    part_whole c.check_once.result c.args.self.now c.enter.new.self c.check_once.new.self _ _ way c.check_once.ensures.err

pub returns-in-Full-clause-ok : goal.returns-in-Full-clause-ok
returns-in-Full-clause-ok c =
    let g = c.args.self.now.history.group in
    stops_there (checking g c.args.self.now.lines) c.enter.new.self _ c.in_ok-enter.field-0 c.in_ok-enter.ensures.ok c.in-Full.is (enter-stopped g (course_with Full c.enter.new.self) Check refl)

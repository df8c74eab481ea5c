use Rattle.std.proofs.Common.{refl}
use Rattle.st_world.specs.Acts.{proposed}
use Rattle.st_world.specs.Rounds.{course_from}
use Rattle.st_world.proofs.RoundLaws.{none_entered}
use Rattle.st_world.proofs.ActLaws.{proposed-grows}
use Rattle.st_world.proofs.world.World.propose_copy.Goals as goal

pub returns-in_err-rows-clause-err : goal.returns-in_err-rows-clause-err
returns-in_err-rows-clause-err c =
    let g = c.args.self.now.history.group in
    let course = course_from c.args.self.now.history.past in
    none_entered c.from_residual.result c.args.self.now c.args.self.now (proposed g course c.args.app c.args.rows.now) (proposed-grows g course c.args.app c.args.rows.now) refl

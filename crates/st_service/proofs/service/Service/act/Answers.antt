-- A read at a version is done once its line was logged.
use Rattle.st_service.proofs.ActLaws.{read_at_done}
use Rattle.st_service.proofs.service.Service.act.Goals as goal

pub returns-in_ok-read_at-in-ReadAt-clause-done : goal.returns-in_ok-read_at-in-ReadAt-clause-done
returns-in_ok-read_at-in-ReadAt-clause-done g c = λ all.
    let arm = c.in-ReadAt in
    let told = c.in_ok-read_at-in-ReadAt.ensures in
    read_at_done c.args.act.now c.group_number-group.result arm.group arm.version arm.entity arm.var g.J.Naming.group g.J.Naming.lines c.args.pass.now c.read_at.new.pass arm.is c.group_number-group.ensures c.read_at.ensures.kept told.logged told.reads

use Rattle.st_service.proofs.RoomLaws.{commit_part}
use Rattle.st_service.proofs.room.enter.Goals as goal

pub returns-in-Commit-clause-err : goal.returns-in-Commit-clause-err
returns-in-Commit-clause-err c = commit_part c.commit.result c.args.number c.args.work c.in-Commit.judged c.args.world.now c.commit.new.world c.in-Commit.is c.commit.ensures.err

use Rattle.std.proofs.Common.{◌≤◌, subst}
use Rattle.st_event.specs.declared.act.Act.{Act}
use Rattle.st_service.specs.Shares.{act_share}
use Rattle.st_service.proofs.room.act_most.Goals as goal

pub returns-in-Poll : goal.returns-in-Poll
returns-in-Poll c = λ n le few. c.turn_most.ensures n (subst (λ (a : Act). n ≤ act_share a c.args.world.now.history.group c.args.world.now.lines) c.in-Poll.is le) few

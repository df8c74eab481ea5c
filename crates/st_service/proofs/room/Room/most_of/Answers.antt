use Rattle.std.proofs.Common.{◌≤◌, List, ap, sym, subst}
use Rattle.st_wire.specs.declared.line.WireLine.{WireLine}
use Rattle.st_service.specs.declared.work.Work.{Work}
use Rattle.st_service.specs.Rooms.{RoomView}
use Rattle.st_service.specs.Shares.{act_share, turn_share, work_share}
use Rattle.st_service.specs.Works.{WorkFits}
use Rattle.st_service.proofs.room.Room.most_of.Goals as goal

pub act_most-requires : goal.act_most-requires
act_most-requires g c = (subst (λ (w : Work). WorkFits w c.args.self.now.history.group) c.in-OneAct.is c.requires).1

pub returns-in-OneAct : goal.returns-in-OneAct
returns-in-OneAct g c =
    λ n le few. c.act_most.ensures n (subst (λ (r : RoomView). n ≤ act_share c.in-OneAct.act.now r.history.group r.lines) (sym c.self.view_is) (subst (λ (w : Work). n ≤ work_share w c.args.self.now.history.group c.args.self.now.lines) c.in-OneAct.is le)) few

pub returns-in-Turn : goal.returns-in-Turn
returns-in-Turn g c =
    λ n le few. c.turn_most.ensures n (subst (λ (r : RoomView). n ≤ turn_share c.in-Turn.part r.lines) (sym c.self.view_is) (subst (λ (w : Work). n ≤ work_share w c.args.self.now.history.group c.args.self.now.lines) c.in-Turn.is le)) few

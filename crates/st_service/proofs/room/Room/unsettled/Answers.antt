-- A sound group has few entities.
use Rattle.std.proofs.Common.{refl, length}
use Rattle.st_world.proofs.RoundLaws.{count_fits}
use Rattle.st_service.proofs.HeldLaws.{ok_also}
use Rattle.st_service.proofs.room.Room.unsettled.Goals as goal

pub returns-clause-few : goal.returns-clause-few
returns-clause-few g c =
    let h = c.self.inside.world.history in
    ok_also c.unsettled.result c.unsettled.ensures.entities (λ entities is. count_fits h.group h.group h.past entities.items (length entities.items) c.is_legal.ensures.sound refl is refl)

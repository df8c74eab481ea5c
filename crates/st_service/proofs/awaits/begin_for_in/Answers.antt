-- The lock shows whether the ticket is decided, by the journal that the pass is taught.
use Rattle.std.proofs.Common.{ap, sym, ◌∙◌}
use Rattle.st_service.specs.Passes.{front_at}
use Rattle.st_service.proofs.OffLockLaws.{begins_for, begins_over}
use Rattle.st_service.proofs.awaits.begin_for_in.Goals as goal

pub returns-then-is_decided-clause-begins : goal.returns-then-is_decided-clause-begins
returns-then-is_decided-clause-begins g c =
    let room = c.look_in.new.room in
    begins_over c.args.ticket c.is_decided.result (front_at c.look_in.new.self.fronts c.args.room.now.group) room.room.history.past c.in_ok-look_in.ensures.journal c.is_decided.ensures c.if-is_decided.true

pub returns-clause-begins : goal.returns-clause-begins
returns-clause-begins g c =
    let room = c.look_in.new.room in
    let n = c.args.room.now.group in
    begins_for c.begin_check.result (g.J.Naming.group n) room.room.history c.args.ticket c.is_decided.result (front_at c.args.pass.now.fronts n) (front_at c.look_in.new.self.fronts n)
    c.begin_check.ensures c.in_ok-look_in.ensures.journal c.is_decided.ensures c.if-is_decided.false (room.group_is ∙ ap g.J.Naming.group c.look_in.ensures.room.0) c.is_legal.ensures.legal c.look_in.ensures.kept.grows.0 c.requires.given

-- There is a room for the one world, and a pass for each application and each worker.
use Rattle.std.proofs.Common.{◌≡◌, ◌∙◌, length, arith}
use Rattle.std.proofs.lemmas.Result.{IfOk-weaker}
use Rattle.st_tests_rooms.proofs.services.opened.Goals as goal

pub returns-clause-rooms : goal.returns-clause-rooms
returns-clause-rooms g c =
    let one : length c.push.new.self.items ≡ 1 = omega (arith, c.in_ok-push.ensures.len, c.new-worlds.ensures.len, c.push.new.self.ok.0) in
    IfOk-weaker c.start.result _ _ (λ made is. is ∙ one) c.start.ensures.rooms

pub returns-clause-passes : goal.returns-clause-passes
returns-clause-passes g c = IfOk-weaker c.start.result _ _ (λ made is. (is.0, is.1)) c.start.ensures.passes

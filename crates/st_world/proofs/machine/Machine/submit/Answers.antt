use Rattle.std.proofs.Common.{refl}
use Rattle.st_world.proofs.MachineLaws.{checker_answers, same_group}
use Rattle.st_world.proofs.machine.Machine.submit.Goals as goal

pub invariant_of-self-2 : goal.invariant_of-self-2
invariant_of-self-2 c = same_group c.self.inside.control c.submit.new.self c.self.inside.plant c.self.inside.wire (c.in_ok-submit.ensures.ok 0).group c.self.invariant

pub returns-clause-ok : goal.returns-clause-ok
returns-clause-ok c = λ n. rw (← c.self.view_is, c.put_reply.ensures.reply, ← c.in_ok-asked.ensures) (checker_answers c.self.inside.control c.submit.new.self c.self.inside.plant c.self.inside.wire n _ _ refl (c.in_ok-submit.ensures.ok n))

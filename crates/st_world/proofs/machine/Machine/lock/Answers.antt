use Rattle.std.proofs.Common.{refl}
use Rattle.st_world.proofs.MachineLaws.{checker_answers, same_group}
use Rattle.st_world.proofs.machine.Machine.lock.Goals as goal

pub invariant_of-self : goal.invariant_of-self
invariant_of-self c = same_group c.self.inside.control c.lock.new.self c.self.inside.plant c.self.inside.wire (c.lock.ensures.moves 0).group c.self.invariant

pub returns-clause-ok : goal.returns-clause-ok
returns-clause-ok c = λ n. rw (← c.self.view_is, c.grant_reply.ensures.reply) (checker_answers c.self.inside.control c.lock.new.self c.self.inside.plant c.self.inside.wire n _ _ refl (c.lock.ensures.moves n))

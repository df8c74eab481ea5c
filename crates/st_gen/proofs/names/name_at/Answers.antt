use Rattle.std.proofs.Common.{arith}
use Rattle.st_gen.proofs.SmallNames.{spelled_text}
use Rattle.st_gen.proofs.names.name_at.Goals as goal

pub name_of-requires : goal.name_of-requires
name_of-requires c = spelled_text c.args.steps.now c.loop-step.step-index c.loop-step.text c.bytes.result.now c.requires.some c.requires.few c.requires.small (omega arith) c.loop-step.invariant c.bytes.ensures

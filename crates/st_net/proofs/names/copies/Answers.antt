use Rattle.st_net.proofs.SameLists.{copied_all}
use Rattle.st_net.proofs.names.copies.Goals as goal

pub returns : goal.returns
returns c = copied_all c.loop-name.copies.items c.args.names.now c.loop-name.name-index c.loop-name.invariant c.loop-name-test.false

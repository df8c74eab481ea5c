use Rattle.st_net.proofs.NameSteps.{twice_device}
use Rattle.st_net.proofs.topo.GroupTopo.build.Goals as goal

pub returns-in-Twice : goal.returns-in-Twice
returns-in-Twice c = twice_device c.args.parts.now c.as_slice.result.now c.in_ok-names.field-0 c.in-Twice.place c.as_slice.ensures c.in_ok-names.ensures c.in-Twice.is

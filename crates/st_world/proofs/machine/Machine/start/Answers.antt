use Rattle.st_world.proofs.MachineLaws.{opens}
use Rattle.st_world.proofs.machine.Machine.start.Goals as goal

pub returns : goal.returns
returns c = opens c.args.topo c.in_ok-control.control c.in_ok-plant.plant c.start-3.result c.in_ok-control.ensures c.in_ok-plant.ensures.opening c.start-3.ensures.commands c.start-3.ensures.reports

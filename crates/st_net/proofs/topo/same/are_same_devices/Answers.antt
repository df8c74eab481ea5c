use Rattle.std.proofs.lemmas.Slice.Eq.{slice_eq-Decides}
use Rattle.st_net.proofs.SameLists.{device_decides}
use Rattle.st_net.proofs.topo.same.are_same_devices.Goals as goal

pub returns : goal.returns
returns c = slice_eq-Decides device_decides c.args.a.now c.args.b.now c.eq.result c.eq.ensures

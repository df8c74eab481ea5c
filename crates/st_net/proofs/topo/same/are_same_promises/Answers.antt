use Rattle.std.proofs.lemmas.Slice.Eq.{slice_eq-Decides}
use Rattle.st_net.proofs.SameLists.{promise_decides}
use Rattle.st_net.proofs.topo.same.are_same_promises.Goals as goal

pub returns : goal.returns
returns c = slice_eq-Decides promise_decides c.args.a.now c.args.b.now c.eq.result c.eq.ensures

use Rattle.std.proofs.Common.{length}
use Rattle.st_promise.specs.Incidence.{AreChains}
use Rattle.st_promise.proofs.incidence.Incidence.of.Given as goal

abbrev pub invariant-loop-link : goal.invariant-loop-link
invariant-loop-link l = AreChains (length l.topo.devices) l.topo.links l.link l.last.items l.earlier.items

use Rattle.st_net.specs.Sets.{is_in}
use Rattle.st_promise.proofs.NetworkLaws.{IsMadeTo}
use Rattle.st_promise.proofs.up_network.UpNetwork.of.Given as goal

abbrev pub invariant-loop-link : goal.invariant-loop-link
invariant-loop-link l = IsMadeTo l.topo (is_in l.up) l.link l.graph

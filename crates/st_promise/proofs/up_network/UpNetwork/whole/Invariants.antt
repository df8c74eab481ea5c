use Rattle.std.specs.Prelude.{true}
use Rattle.st_promise.proofs.NetworkLaws.{IsMadeTo}
use Rattle.st_promise.proofs.up_network.UpNetwork.whole.Given as goal

abbrev pub invariant-loop-link : goal.invariant-loop-link
invariant-loop-link l = IsMadeTo l.topo (λ e. true) l.link l.graph

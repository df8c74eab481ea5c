use Rattle.std.proofs.Common.{◌<◌, true, All, length}
use Rattle.st_promise.specs.UpNetwork.{up_edges}
use Rattle.st_promise.specs.KeptFlow.{IsEndIn}
use Rattle.st_promise.proofs.ShareLaws.{TellTo}
use Rattle.st_promise.proofs.kept_flow.KeptFlow.of.Given as goal

abbrev pub invariant-loop-link : goal.invariant-loop-link
invariant-loop-link l = record {
  in_range : All (λ s. (s.link < length l.topo.links) × (s.head < length l.topo.devices)) l.shares.items;
  ends : All (IsEndIn (up_edges 0 l.topo.links (λ e. true))) l.shares.items;
  amounts : TellTo l.link (up_edges 0 l.topo.links (λ e. true)) l.flow l.shares.items;
}

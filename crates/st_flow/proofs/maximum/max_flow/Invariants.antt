use Rattle.std.proofs.Common.{◌≡◌, ◌-◌, pos, length}
use Rattle.st_flow.specs.Network.{IsFlow, net_out_of}
use Rattle.st_flow.proofs.maximum.max_flow.Given as goal

abbrev pub invariant-loop-sent : goal.invariant-loop-sent
invariant-loop-sent l = record {
  flow : IsFlow l.g.nodes l.g.edges l.amounts.items l.a l.b;
  amount : pos l.sent ≡ net_out_of l.g.edges l.amounts.items l.a;
  near_nodes : length l.near.marks.items ≡ l.g.nodes;
  far_nodes : length l.far.marks.items ≡ l.g.nodes;
}

abbrev pub decreases-loop-sent : goal.decreases-loop-sent
decreases-loop-sent l = l.need - l.sent

use Rattle.std.proofs.Common.{◌≡◌, ◌*◌, ◌≤◌, take}
use Rattle.st_flow.specs.Network.{cut_value, has}
use Rattle.st_flow.proofs.cut.cut_value.Given as goal

abbrev pub invariant-loop-edge : goal.invariant-loop-edge
invariant-loop-edge l = record {
  so_far : l.value ≡ cut_value (take l.edge-index l.edges) (has l.side);
  small : l.value ≤ 1000000 * l.edge-index;
}

use Rattle.std.proofs.Common.{◌≡◌, map, take, drop}
use Rattle.st_net.specs.Sets.{is_in}
use Rattle.st_net.specs.Promises.{is_kept, first_broken}
use Rattle.st_net.specs.Asks.{asks}
use Rattle.st_promise.specs.ToFirst.{IsAheadAt}
use Rattle.st_promise.proofs.to_first.judge_to_first.Given as goal

abbrev pub invariant-loop-i : goal.invariant-loop-i
invariant-loop-i g l = record {
  holds : l.holds.items ≡ take l.i (map (is_kept l.topo (is_in l.after)) (asks l.topo));
  first : first_broken l.topo (is_in l.before) (is_in l.after) l.i (drop l.i (asks l.topo)) ≡ first_broken l.topo (is_in l.before) (is_in l.after) 0 (asks l.topo);
  ahead : IsAheadAt l.topo (is_in l.before) (is_in l.after) l.known l.i l.ahead;
}

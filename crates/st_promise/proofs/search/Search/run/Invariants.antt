use Rattle.std.proofs.Common.{◌≡◌, ◌≤◌, ◌<◌, ◌-◌, ℕ, length}
use Rattle.st_net.specs.Sets.{is_in}
use Rattle.st_promise.specs.Search.{step_at, IsSearch, IsVisited}
use Rattle.st_promise.proofs.search.Search.run.Given as goal

abbrev pub invariant-loop-next : goal.invariant-loop-next
invariant-loop-next l = record {
  search : IsSearch (length l.topo.devices) l.topo.links (is_in l.up) l.search;
  root : l.search.root ≡ l.root;
  within : l.next ≤ length l.search.steps;
  visited : (k : ℕ) → k < l.next → IsVisited l.topo.links (is_in l.up) l.search (step_at l.search k).device;
}

abbrev pub decreases-loop-next : goal.decreases-loop-next
decreases-loop-next l = length l.topo.devices - l.next

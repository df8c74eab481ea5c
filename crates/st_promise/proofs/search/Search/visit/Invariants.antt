use Rattle.std.proofs.Common.{length}
use Rattle.st_net.specs.Sets.{is_in}
use Rattle.st_promise.specs.Incidence.{links_left}
use Rattle.st_promise.specs.Search.{IsSearch, Extends}
use Rattle.st_promise.proofs.VisitLaws.{IsLeft}
use Rattle.st_promise.proofs.search.Search.visit.Given as goal

abbrev pub invariant-loop-next : goal.invariant-loop-next
invariant-loop-next l = record {
  search : IsSearch (length l.topo.devices) l.topo.links (is_in l.up) l.self;
  more : Extends l.initial.self l.self;
  left : IsLeft l.topo.links (is_in l.up) l.self l.device l.next;
}

abbrev pub decreases-loop-next : goal.decreases-loop-next
decreases-loop-next l = links_left l.next

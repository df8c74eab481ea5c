use Rattle.std.proofs.Common.{◌≡◌, take}
use Rattle.st_net.specs.Sets.{is_in}
use Rattle.st_player.specs.Cuts.{is_marked, is_one_across, links_from}
use Rattle.st_player.proofs.cuts.crossing.Given as goal

-- the links so far
abbrev pub invariant-loop-link : goal.invariant-loop-link
invariant-loop-link l = l.links.items ≡ links_from 0 (is_one_across (is_in l.up) l.are_up (is_marked l.marks)) (take l.link l.topo.links)

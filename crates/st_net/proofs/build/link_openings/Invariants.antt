use Rattle.std.proofs.Common.{◌≡◌, map, take}
use Rattle.st_net.specs.Faults.{link_opening}
use Rattle.st_net.proofs.build.link_openings.Given as goal

abbrev pub invariant-loop-link : goal.invariant-loop-link
invariant-loop-link l = l.openings.items ≡ map (link_opening l.names) (take l.link-index l.links)

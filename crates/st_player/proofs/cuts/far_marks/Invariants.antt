use Rattle.std.proofs.Common.{◌≡◌, length}
use Rattle.st_net.specs.Sets.{is_in}
use Rattle.st_player.specs.Cuts.{is_marked, is_near}
use Rattle.st_player.proofs.cuts.far_marks.Given as goal

-- what walks of so many links join
abbrev pub invariant-walks : goal.invariant-walks
invariant-walks l = (length l.near.items ≡ length l.topo.devices) × (is_marked l.near.items ≡ is_near l.topo (is_in l.up) (is_marked l.side) l.end l._walk)

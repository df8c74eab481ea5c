use Rattle.std.proofs.Common.{◌≡◌, ℕ, length, take}
use Rattle.std.specs.Prelude.{◌&&◌, ◌||◌, not}
use Rattle.st_net.specs.Sets.{is_in}
use Rattle.st_player.specs.Cuts.{is_joined_from, is_marked}
use Rattle.st_player.proofs.cuts.grow.Given as goal

-- what the links so far join
abbrev pub invariant-loop-link : goal.invariant-loop-link
invariant-loop-link l = (length l.more.items ≡ length l.topo.devices) × ((d : ℕ) → is_marked l.more.items d ≡ (is_marked l.near d || (not (is_marked l.side d) && is_joined_from 0 (take l.link l.topo.links) (is_in l.up) (is_marked l.near) d)))

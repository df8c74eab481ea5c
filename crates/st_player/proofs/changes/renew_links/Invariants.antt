use Rattle.std.proofs.Common.{◌≡◌, ◌+◌, length, map}
use Rattle.serde_json.specs.View.{view}
use Rattle.st_net.specs.declared.entity.Entity.TheVariants.{Device}
use Rattle.st_net.specs.InOrder.{entities_of}
use Rattle.st_event.specs.History.{History}
use Rattle.st_player.specs.declared.touched.Touched.TheVariants.{Near}
use Rattle.st_player.specs.Touched.{IsRenewed, Touches}
use Rattle.st_player.proofs.changes.renew_links.Given as goal

-- the links so far
abbrev pub invariant-loop-i : goal.invariant-loop-i
invariant-loop-i l =
    (length l.states ≡ length (entities_of l.behind.group))
    × ((h : History) → Touches h l.behind (Near (Device l.device)) → IsRenewed h l.behind (length l.behind.group.devices) l.fn.states (map view l.fn.list) → IsRenewed h l.behind (length l.behind.group.devices + l.i) l.states (map view l.list))

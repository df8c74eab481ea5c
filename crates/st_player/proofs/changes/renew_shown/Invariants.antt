use Rattle.std.proofs.Common.{◌≡◌, length, map}
use Rattle.serde_json.specs.View.{view}
use Rattle.st_net.specs.InOrder.{entities_of}
use Rattle.st_event.specs.History.{History}
use Rattle.st_player.specs.Touched.{IsRenewed, Touches}
use Rattle.st_player.proofs.changes.renew_shown.Given as goal

-- the states so far
abbrev pub invariant-loop-place : goal.invariant-loop-place
invariant-loop-place l =
    (length l.states ≡ length (entities_of l.behind.group))
    × ((h : History) → Touches h l.behind l.touched → IsRenewed h l.behind 0 l.fn.states (map view l.fn.list) → IsRenewed h l.behind l.place l.states (map view l.list))

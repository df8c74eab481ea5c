use Rattle.std.proofs.Common.{◌≡◌, length, take}
use Rattle.std.specs.Prelude.{not}
use Rattle.std.specs.List.{filter}
use Rattle.st_net.specs.Groups.{Group}
use Rattle.st_net.specs.InOrder.{entities_among}
use Rattle.st_overlay.specs.Values.{IsTableOf}
use Rattle.st_plan.specs.Unsettled.{is_settled_in}
use Rattle.st_plan.proofs.unsettled.plan.Given as goal

-- the unsettled of the entities so far were found
abbrev pub invariant-loop-place : goal.invariant-loop-place
invariant-loop-place l = (g : Group) → IsTableOf g l.target → l.unsettled.items ≡ filter (λ e. not (is_settled_in g l.observed l.target l.stamps e)) (take l.place (entities_among (length l.target.devices) (length l.target.links)))

use Rattle.std.proofs.Common.{subst, sym}
use Rattle.serde_json.specs.Data.{Data}
use Rattle.serde_json.specs.View.{members_view}
use Rattle.serde_json.proofs.Views.{view-Object}
use Rattle.st_player.specs.Safe.{IsSafe}
use Rattle.st_player.proofs.SafeLemmas.{object_safe}
use Rattle.st_player.proofs.safe_json.Json.object.Goals as goal

pub invariant_of-result : goal.invariant_of-result
invariant_of-result c =
    subst (λ (d : Data). IsSafe d) (sym (view-Object c.object.inside.members))
    (object_safe (members_view c.object.inside.members.entries) c.object.invariant)

use Rattle.std.proofs.Common.{subst, sym, map}
use Rattle.serde_json.specs.Data.{Data}
use Rattle.serde_json.specs.View.{view}
use Rattle.serde_json.proofs.Views.{view-Array}
use Rattle.st_player.specs.Safe.{IsSafe}
use Rattle.st_player.proofs.SafeLemmas.{list_safe}
use Rattle.st_player.proofs.safe_json.Json.list.Goals as goal

pub invariant_of-result : goal.invariant_of-result
invariant_of-result c =
    subst (λ (d : Data). IsSafe d) (sym (view-Array c.list.inside.values))
    (list_safe (map view c.list.inside.values.items) c.list.invariant)

use Rattle.std.proofs.Common.{subst, sym, List}
use Rattle.serde_json.specs.View.{items_view}
use Rattle.serde_json.specs.declared.value.Value.{Value}
use Rattle.st_player.specs.Safe.{AreSafeItems}
use Rattle.st_player.proofs.SafeLemmas.{values_push}
use Rattle.st_player.proofs.safe_json.JsonList.push.Goals as goal

pub invariant_of-self-2 : goal.invariant_of-self-2
invariant_of-self-2 c =
    subst (λ (vs : List Value). AreSafeItems (items_view vs)) (sym c.in_ok-push.ensures.items)
    (values_push c.self.inside.values.items c.json.inside.value c.self.invariant c.json.invariant)

use Rattle.std.proofs.Common.{subst, sym}
use Rattle.serde_json.specs.Data.{Data}
use Rattle.st_player.specs.Safe.{IsSafe}
use Rattle.st_player.proofs.SafeLemmas.{number_safe}
use Rattle.st_player.proofs.safe_json.Json.number.Goals as goal

pub invariant_of-result : goal.invariant_of-result
invariant_of-result c = subst (λ (d : Data). IsSafe d) (sym c.from.ensures) (number_safe c.args.n)

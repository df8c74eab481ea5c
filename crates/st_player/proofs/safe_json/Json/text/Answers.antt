use Rattle.std.proofs.Common.{◌≡◌, subst, sym, rules}
use Rattle.serde_json.specs.Data.{Data, string}
use Rattle.serde_json.specs.View.{view}
use Rattle.st_player.specs.Safe.{IsSafe}
use Rattle.st_entry.proofs.Plain.{plain_utf8}
use Rattle.st_player.proofs.SafeLemmas.{text_safe}
use Rattle.st_player.proofs.safe_json.Json.text.Goals as goal

pub invariant_of-result : goal.invariant_of-result
invariant_of-result c =
    let is : view c.in_ok-try_from_str-in-Ok.field-0 ≡ string c.args.bytes.now = search rules in
    subst (λ (d : Data). IsSafe d) (sym is) (text_safe c.args.bytes.now c.requires)

pub unreachable-requires : goal.unreachable-requires
unreachable-requires c = c.in-Err.ensures.cases.0 (plain_utf8 c.args.bytes.now c.requires)

use Rattle.std.proofs.Common.{◌≡◌, ◌∙◌, ℕ, ◌+◌, ◌<◌, List, [], ◌∷◌, ◌++◌, get_or, length, take, ap, sym, true}
use Rattle.std.proofs.lemmas.List.{take_all, take_more}
use Rattle.st_net.specs.Groups.{are_names}
use Rattle.st_net.specs.Names.{is_name}
use Rattle.st_net.proofs.NameLemmas.{names_added}
use Rattle.st_report.proofs.names.are_names.Goals as goal

-- one more name
names_next : (names : List (List ℕ)) (i : ℕ) (name d : List ℕ) → i < length names → name ≡ get_or names i d → are_names (take i names) ≡ true → is_name name ≡ true → are_names (take (i + 1) names) ≡ true
names_next names i name d within is before spelled = ap are_names (take_more names i d within) ∙ (ap (λ n. are_names (take i names ++ n ∷ [])) (sym is) ∙ names_added (take i names) name before spelled)

pub loop-app-preserved : goal.loop-app-preserved
loop-app-preserved c =
    let spelled : is_name c.app-item.result ≡ true = ap is_name (sym c.bytes-spelling.ensures.bytes) ∙ c.bytes-spelling.ensures.spelling in
    names_next c.args.apps.now c.loop-app.app-index c.app-item.result c.app-item.result c.loop-app-test.true c.app-item.is c.loop-app.invariant spelled

pub returns : goal.returns
returns c = ap are_names (sym (take_all c.loop-app.app-index c.args.apps.now c.loop-app-test.false)) ∙ c.loop-app.invariant

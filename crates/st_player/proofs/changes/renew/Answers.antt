use Rattle.std.proofs.Common.{◌≡◌, ◌∙◌, ◌<◌, refl, ap, arith, length, get_or, map}
use Rattle.serde_json.specs.View.{view}
use Rattle.std.proofs.lemmas.List.{get_or_default}
use Rattle.st_text.proofs.PrintLemmas.{ok_by}
use Rattle.st_net.specs.Groups.{Group}
use Rattle.st_net.specs.InOrder.{entities_of}
use Rattle.st_event.specs.History.{History}
use Rattle.st_player.proofs.ChangeLemmas.{renewed_one}
use Rattle.st_player.proofs.changes.renew.Goals as goal

pub returns-clause-renewed : goal.returns-clause-renewed
returns-clause-renewed c h was =
    let k = c.args.behind.now in
    let e = c.entity_at.result in
    let i = c.args.place in
    let group : c.topo-topo.result.now ≡ k.group = c.topo-topo.ensures.topo ∙ (c.control.ensures.group ∙ ap (λ (m : History). m.group) c.world.ensures) in
    let at : e ≡ get_or (entities_of k.group) i e = c.entity_at.ensures.at ∙ ap (λ (g : Group). get_or (entities_of g) i e) group in
    let low : i < length c.args.states.now = omega (arith, c.requires.place, c.requires.count) in
    ok_by c.add_change.result (λ put. renewed_one h k i _ c.args.states.now (map view c.args.list.now) (map view c.add_change.new.list) e _ c.state-state.result refl c.requires.place c.requires.count at (get_or_default c.args.states.now i _ _ low) c.state-state.ensures put was) c.add_change.ensures

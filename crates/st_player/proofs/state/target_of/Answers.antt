use Rattle.std.proofs.Common.{ap, sym, ◌∙◌}
use Rattle.st_net.specs.Groups.{Group}
use Rattle.st_net.specs.Merge.{vals_in}
use Rattle.st_event.specs.Proposals.{target}
use Rattle.st_event.specs.Standing.{Standing}
use Rattle.st_overlay.specs.Values.{Values, vals_at, value_in}
use Rattle.st_store.specs.Store.{StoreView}
use Rattle.st_player.proofs.state.target_of.Goals as goal

pub returns : goal.returns
returns c =
    let g = c.args.world.now.history.group in
    let past = c.args.world.now.history.past in
    let e = c.args.entity in
    let k = c.control.result.now in
    c.get.ensures
    ∙ ap (λ (t : Values). vals_at t e) c.target.ensures.target
    ∙ sym (c.store.ensures.of.table.values e)
    ∙ ap (λ (s : StoreView). vals_in k.group (value_in s.target) e) c.store.ensures.store
    ∙ ap (λ (t : Standing). vals_in k.group t.target e) c.control.ensures.standing
    ∙ ap (λ (h : Group). vals_in h (target g past) e) c.control.ensures.group

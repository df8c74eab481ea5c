use Rattle.std.proofs.Common.{◌≡◌, ◌∙◌, ap, arith}
use Rattle.st_event.specs.Proposals.{version}
use Rattle.st_event.specs.Standing.{Standing}
use Rattle.st_event.proofs.Accepting.{legal_within}
use Rattle.st_event.proofs.Versions.{versions_few}
use Rattle.st_store.specs.Store.{StoreView}
use Rattle.st_player.proofs.origins.next_setter.Goals as goal

-- there are no more versions than entries
pub overflow_add-version : goal.overflow_add-version
overflow_add-version c =
    let g = c.args.world.now.history.group in
    let past = c.args.world.now.history.past in
    let last : c.version-version.result ≡ version past = c.version-version.ensures.version ∙ ap (λ (s : StoreView). s.version) c.store-store.ensures.store ∙ ap (λ (s : Standing). s.version) c.control.ensures.standing in
    omega (arith, last, versions_few past, legal_within g past c.is_legal.ensures.legal)

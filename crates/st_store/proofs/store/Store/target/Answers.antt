use Rattle.std.proofs.Common.{◌≡◌, ℕ, ◌≤◌, subst}
use Rattle.st_overlay.specs.Values.{value_in}
use Rattle.st_store.specs.Changes.{value_at}
use Rattle.st_store.specs.Store.{StoreView}
use Rattle.st_store.proofs.store.Store.target.Goals as goal

pub returns-clause-latest : goal.returns-clause-latest
returns-clause-latest c = subst (λ (s : StoreView). (v : ℕ) → s.version ≤ v → value_at s.versions v ≡ value_in c.table.result.now) c.self.view_is c.table.ensures.latest

use Rattle.std.proofs.Common.{◌≡◌, ℕ, ◌≤◌, subst}
use Rattle.st_overlay.specs.Values.{value_in}
use Rattle.st_store.specs.Changes.{value_at}
use Rattle.st_store.specs.Rooms.{lists_of}
use Rattle.st_store.specs.Versions.{VersionsView}
use Rattle.st_store.proofs.VersionLaws.{value_at-latest}
use Rattle.st_store.proofs.versions.Versions.table.Goals as goal

pub returns-clause-latest : goal.returns-clause-latest
returns-clause-latest c =
    let v : VersionsView = record { version = c.self.inside.version; target = c.self.inside.table; changes = lists_of c.self.inside.changes } in
    subst (λ (v : VersionsView). (n : ℕ) → v.version ≤ n → value_at v.changes n ≡ value_in c.self.inside.table) c.self.view_is (value_at-latest v c.self.invariant)

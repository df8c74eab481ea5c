-- What is seen of a variable of a group, by the store of its checker.
use Rattle.std.proofs.Common.{◌≡◌, ℕ, true, ◌≤◌, refl, ap, ◌∙◌, arith, nat_le}
use Rattle.std.proofs.lemmas.Bool.Decides.{nat_tests}
use Rattle.st_net.specs.declared.entity.Entity.{Entity}
use Rattle.st_net.specs.declared.entity.Var.{Var}
use Rattle.st_event.specs.declared.act.LogSaw.TheVariants.{Seen, At}
use Rattle.st_event.specs.History.{History}
use Rattle.st_event.specs.Proposals.{version, target}
use Rattle.st_event.specs.Standing.{Standing, standing_of}
use Rattle.st_event.specs.Versions.{value_at}
use Rattle.st_overlay.specs.Values.{value_in}
use Rattle.st_store.specs.Store.{StoreView}
use Rattle.st_store.specs.Changes.{value_at as value_at_version}
use Rattle.st_control.specs.Control.{ControlView, standing_in, versions_in}
use Rattle.st_world.specs.Acts.{seen_now, seen_at}

-- the checker stands as the journal leaves the group, and the store is the checker's
pub record IsStoreAt (h : History) (k : ControlView) (store : StoreView) : Type 0 where
  pub standing : standing_in k ≡ standing_of h.group h.past
  pub versions : versions_in k ≡ value_at h.group h.past
  pub store_is : store ≡ k.store

store_version : (h : History) (k : ControlView) (store : StoreView) → IsStoreAt h k store → store.version ≡ version h.past
store_version h k store at = ap (λ (s : StoreView). s.version) at.store_is ∙ ap (λ (s : Standing). s.version) at.standing

pub seen_now_is : (h : History) (k : ControlView) (store : StoreView) (latest value : ℕ) (entity : Entity) (var : Var) → IsStoreAt h k store → latest ≡ store.version → value ≡ value_in store.target entity var → Seen latest value ≡ seen_now h entity var
seen_now_is h k store latest value entity var at latest_is value_is =
    let last : latest ≡ version h.past = latest_is ∙ store_version h k store at in
    let has : value ≡ target h.group h.past entity var = value_is ∙ ap (λ (s : StoreView). value_in s.target entity var) at.store_is ∙ ap (λ (s : Standing). s.target entity var) at.standing in
    rw (last, has) refl

within : (m n : ℕ) → m ≤ n → nat_le m n ≡ true
within m n low = grind (arith, nat_tests)

pub seen_at_value : (h : History) (k : ControlView) (store : StoreView) (v value : ℕ) (entity : Entity) (var : Var) → IsStoreAt h k store → v ≤ store.version → value ≡ value_at_version store.versions v entity var → At v value ≡ seen_at h v entity var
seen_at_value h k store v value entity var at low value_is =
    let latest = store_version h k store at in
    let there : nat_le v (version h.past) ≡ true = within v (version h.past) (omega (arith, latest, low)) in
    let has : value ≡ value_at h.group h.past v entity var = value_is ∙ ap (λ (s : StoreView). value_at_version s.versions v entity var) at.store_is ∙ ap (λ (f : ℕ → Entity → Var → ℕ). f v entity var) at.versions in
    rw (there, has) refl

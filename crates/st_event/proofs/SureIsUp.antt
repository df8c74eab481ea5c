-- A sure entity carries in the network, or failed since the report by which it is known.
use Rattle.std.proofs.Common.{◌≡◌, ℕ, ◌≤◌, List, refl, ap, sym, ◌∙◌, subst, inl, inr, arith}
use Rattle.std.specs.Prelude.{Bool, true, false, ◌&&◌, ◌==◌, not, ◌⊎◌}
use Rattle.st_net.specs.declared.entity.Entity.{Entity}
use Rattle.st_net.specs.declared.entity.Vals.{Vals}
use Rattle.st_net.specs.declared.message.Report.{Report}
use Rattle.st_event.specs.declared.journal.Entry.{Entry}
use Rattle.st_net.specs.Levels.{carries, level_of}
use Rattle.st_net.specs.Entities.{is_same_vals}
use Rattle.st_net.specs.Groups.{Group}
use Rattle.st_event.specs.Proposals.{target}
use Rattle.st_net.specs.Merge.{vals_in}
use Rattle.st_event.specs.Moments.{stamp, fence, busy, vals, health}
use Rattle.st_net.specs.Reports.{is_settled_by, is_sure_by}
use Rattle.st_event.specs.Observed.{observed, sure, actual, untold, failed_since}
use Rattle.st_event.specs.Facts.{IsShown}
use Rattle.st_net.proofs.Tests.{both, turned, equal_numbers, equal_self, same_vals, same_vals_self}
use Rattle.st_event.proofs.Made.{IsOwn, observed_own}
use Rattle.st_event.proofs.Stamps.{fence_small}
use Rattle.st_event.proofs.Shown.{made_is_true}

-- what makes an entity sure
pub record IsSureBy (e : Entity) (r : Report) (stamp : ℕ) (target : Vals) : Type 0 where
  pub idle : r.busy ≡ false
  pub fence : r.fence ≡ stamp
  pub values : r.vals ≡ target
  pub carries : carries e r.vals r.level ≡ true

pub sure_parts : (e : Entity) (r : Report) (stamp : ℕ) (target : Vals) → is_sure_by e r stamp target ≡ true → IsSureBy e r stamp target
sure_parts e r stamp target is =
    let x = both (is_settled_by r stamp target) (carries e r.vals r.level) is in
    let y = both (not r.busy && r.fence == stamp) (is_same_vals r.vals target) x.0 in
    let z = both (not r.busy) (r.fence == stamp) y.0 in
    record { idle = turned r.busy z.0; fence = equal_numbers r.fence stamp z.1; values = same_vals r.vals target y.1; carries = x.1 }

pub sure_made : (e : Entity) (r : Report) (stamp : ℕ) (target : Vals) → IsSureBy e r stamp target → is_sure_by e r stamp target ≡ true
sure_made e r stamp target is =
    let fence : (r.fence == stamp) ≡ true = rw is.fence (equal_self stamp) in
    let values : is_same_vals r.vals target ≡ true = rw is.values (same_vals_self target) in
    rw (is.idle, fence, values, is.carries) refl

shown_up : (g : Group) (past : List Entry) (e : Entity) (r : Report) → r.entity ≡ e → IsShown g past r → carries e r.vals r.level ≡ true → actual g past e ≡ true
shown_up g past e r own shown carry =
    let idle : busy g past e ≡ false = subst (λ (x : Entity). busy g past x ≡ false) own shown.idle in
    let values : vals g past e ≡ r.vals = subst (λ (x : Entity). vals g past x ≡ r.vals) own shown.values in
    let level : level_of e (vals g past e) (health g past e) false ≡ r.level = subst (λ (x : Entity). level_of x (vals g past x) (health g past x) false ≡ r.level) own shown.level in
    rw (idle, level, values) carry

up_or_failed : (g : Group) (past : List Entry) (e : Entity) (r : Report) (b : Bool) → failed_since past e r.number ≡ b → IsOwn g past e r → IsSureBy e r (stamp g past e) (vals_in g (target g past) e) → (actual g past e ≡ true) ⊎ (failed_since past e r.number ≡ true)
up_or_failed g past e r true failed own sure = inr failed
up_or_failed g past e r false failed own sure =
    let true_of = made_is_true g past r own.made in
    let behind : r.fence ≤ fence g past e = subst (λ (x : Entity). r.fence ≤ fence g past x) own.own true_of.behind in
    let low = fence_small g past e in
    let same : r.fence ≡ fence g past e = omega (arith, behind, low, sure.fence) in
    let here : r.fence ≡ fence g past r.entity = same ∙ sym (ap (fence g past) own.own) in
    let none : failed_since past r.entity r.number ≡ false = ap (λ (x : Entity). failed_since past x r.number) own.own ∙ failed in
    inl (shown_up g past e r own.own (true_of.shows sure.idle here none) sure.carries)

pub sure_is_up : (g : Group) (past : List Entry) (e : Entity) → sure g past e ≡ true → (actual g past e ≡ true) ⊎ (untold g past e ≡ true)
sure_is_up g past e is =
    up_or_failed g past e (observed g past e) (untold g past e) refl (observed_own g past e) (sure_parts e (observed g past e) (stamp g past e) (vals_in g (target g past) e) is)

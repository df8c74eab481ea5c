-- Rows entered among the changes, one after another.
use Rattle.std.proofs.Common.{◌≡◌, ℕ, suc, ◌+◌, ◌<◌, List, [], ◌∷◌, length, get_or, take, refl, sym, ap, ◌∙◌, subst, arith, length-set}
use Rattle.std.specs.Prelude.{Bool, true, false, ◌&&◌, ◌||◌, nat_le, All, if◌then◌else◌}
use Rattle.std.proofs.lemmas.Bool.Decides.{nat_tests}
use Rattle.std.proofs.lemmas.Grind.{common_steps}
use Rattle.std.proofs.lemmas.List.Sums.{fold_more}
use Rattle.st_net.specs.declared.entity.Entity.{Entity}
use Rattle.st_net.specs.declared.entity.Entity.TheVariants.{Device, Link}
use Rattle.st_net.specs.declared.entity.Row.{Row}
use Rattle.st_net.specs.declared.entity.Vals.{Vals}
use Rattle.st_net.specs.Entities.{is_same_entity}
use Rattle.st_net.proofs.Tests.{same_entity}
use Rattle.st_overlay.specs.Values.{Values, vals_at}
use Rattle.st_overlay.proofs.Alterations.{is_named}
use Rattle.st_store.specs.declared.change.Change.{Change}
use Rattle.st_store.specs.declared.change_table.ChangeTable.{ChangeTable}
use Rattle.st_store.specs.Changes.{ChangeLists, changes_of, vals_upto, vals_at_version, with_change, change_set, row_entered, entered, HasEntity, HasEntityOf, IsOrderly}
use Rattle.st_store.specs.Rooms.{IsReadyFor, StaysReady}
use Rattle.st_store.proofs.ChangeLaws.{vals_upto-with_change, IsOrderly-with_change}

-- an entity's changes with one more, and those of all others as they were
pub changes_of-change_set : (c : ChangeLists) (at e : Entity) (change : Change) → HasEntity c at → changes_of (change_set c at change) e ≡ (if is_same_entity at e then with_change (changes_of c at) change else changes_of c e)
changes_of-change_set c (Device i) (Device j) change here = grind (arith, nat_tests, common_steps)
changes_of-change_set c (Link i) (Link j) change here = grind (arith, nat_tests, common_steps)
changes_of-change_set c (Device i) (Link j) change here = refl
changes_of-change_set c (Link i) (Device j) change here = refl

opening-change_set : (c : ChangeLists) (at : Entity) (change : Change) → (change_set c at change).opening ≡ c.opening
opening-change_set c (Device i) change = refl
opening-change_set c (Link i) change = refl

devices-change_set : (c : ChangeLists) (at : Entity) (change : Change) → length (change_set c at change).devices ≡ length c.devices
devices-change_set c (Device i) change = length-set c.devices i _
devices-change_set c (Link i) change = refl

links-change_set : (c : ChangeLists) (at : Entity) (change : Change) → length (change_set c at change).links ≡ length c.links
links-change_set c (Device i) change = refl
links-change_set c (Link i) change = length-set c.links i _

HasEntity-change_set : (c : ChangeLists) (at e : Entity) (change : Change) → HasEntity c e → HasEntity (change_set c at change) e
HasEntity-change_set c at (Device i) change here = rw (devices-change_set c at change) here
HasEntity-change_set c at (Link i) change here = rw (links-change_set c at change) here

pub HasEntities-change_set : (c d : ChangeLists) (at : Entity) (change : Change) (rows : List Row) → d ≡ change_set c at change → All (HasEntityOf c) rows → All (HasEntityOf d) rows
HasEntities-change_set c d at change rows is all = rw is (λ k r lt. HasEntity-change_set c at (get_or rows k r).entity change (all k r lt))

-- one row more
pub entered_next : (n : ℕ) (t : Values) (c before after : ChangeLists) (rows : List Row) (i : ℕ) (d : Row) → i < length rows → before ≡ entered n t c (take i rows) → after ≡ row_entered n t before (get_or rows i d) → after ≡ entered n t c (take (i + 1) rows)
entered_next n t c before after rows i d lt so_far is = is ∙ ap (λ (lists : ChangeLists). row_entered n t lists (get_or rows i d)) so_far ∙ sym (fold_more (row_entered n t) c rows i d lt)

pub ready_next : (n : ℕ) (old new : ChangeTable) (rows : List Row) → StaysReady n old new → All (IsReadyFor n old) rows → All (IsReadyFor n new) rows
ready_next n old new rows stays all = λ k d lt. stays (get_or rows k d).entity (all k d lt)

-- one change of an entity: it counts from its version on, and all else is as it was
vals_at_version-change_set : (c : ChangeLists) (at e : Entity) (change : Change) (v : ℕ) → HasEntity c at → vals_at_version (change_set c at change) v e ≡ (if is_same_entity at e && nat_le change.version v then change.vals else vals_at_version c v e)
vals_at_version-change_set c at e change v here =
    rw (opening-change_set c at change, changes_of-change_set c at e change here)
    (by_entity (is_same_entity at e) refl)
  where
    by_entity : (same : Bool) → is_same_entity at e ≡ same → vals_upto v (if same then with_change (changes_of c at) change else changes_of c e) (vals_at c.opening e) ≡ (if same && nat_le change.version v then change.vals else vals_at_version c v e)
    by_entity false is = refl
    by_entity true is =
        vals_upto-with_change v (changes_of c at) change (vals_at c.opening e)
        ∙ ap (λ (x : Entity). if nat_le change.version v then change.vals else vals_upto v (changes_of c x) (vals_at c.opening e)) (same_entity at e is)

-- the entities of the rows have the values of the table from version n on, and all else is as it was
pub vals_at_version-entered : (n : ℕ) (t : Values) (c : ChangeLists) (rows : List Row) (v : ℕ) (e : Entity) → All (HasEntityOf c) rows → vals_at_version (entered n t c rows) v e ≡ (if is_named rows e && nat_le n v then vals_at t e else vals_at_version c v e)
vals_at_version-entered n t c [] v e all = refl
vals_at_version-entered n t c (row ∷ rows) v e all =
    let change : Change = record { version = n; vals = vals_at t row.entity } in
    let next : ChangeLists = change_set c row.entity change in
    let rest : All (HasEntityOf c) rows = λ k d lt. all (suc k) d (omega arith) in
    vals_at_version-entered n t next rows v e (HasEntities-change_set c next row.entity change rows refl rest)
    ∙ ap (λ (vals : Vals). if is_named rows e && nat_le n v then vals_at t e else vals) (vals_at_version-change_set c row.entity e change v (all 0 row (omega arith)))
    ∙ by_name (is_same_entity row.entity e) (is_named rows e) (nat_le n v) refl
  where
    by_name : (same named from : Bool) → is_same_entity row.entity e ≡ same → (if named && from then vals_at t e else (if same && from then vals_at t row.entity else vals_at_version c v e)) ≡ (if (same || named) && from then vals_at t e else vals_at_version c v e)
    by_name true true true is = refl
    by_name true false true is = ap (vals_at t) (same_entity row.entity e is)
    by_name false true true is = refl
    by_name false false true is = refl
    by_name true true false is = refl
    by_name true false false is = refl
    by_name false true false is = refl
    by_name false false false is = refl

IsOrderly-change_set : (n : ℕ) (c : ChangeLists) (at : Entity) (change : Change) → change.version ≡ n → HasEntity c at → ((e : Entity) → IsOrderly n (changes_of c e)) → (e : Entity) → IsOrderly n (changes_of (change_set c at change) e)
IsOrderly-change_set n c at change is here orderly e =
    rw (changes_of-change_set c at e change here) (by_entity (is_same_entity at e))
  where
    by_entity : (same : Bool) → IsOrderly n (if same then with_change (changes_of c at) change else changes_of c e)
    by_entity false = orderly e
    by_entity true = subst (λ (m : ℕ). IsOrderly m (with_change (changes_of c at) change)) is (IsOrderly-with_change (changes_of c at) change (subst (λ (m : ℕ). IsOrderly m (changes_of c at)) (sym is) (orderly at)))

-- and in order, where no change is of a later version
pub IsOrderly-entered : (n : ℕ) (t : Values) (c : ChangeLists) (rows : List Row) → All (HasEntityOf c) rows → ((e : Entity) → IsOrderly n (changes_of c e)) → (e : Entity) → IsOrderly n (changes_of (entered n t c rows) e)
IsOrderly-entered n t c [] all orderly e = orderly e
IsOrderly-entered n t c (row ∷ rows) all orderly e =
    let change : Change = record { version = n; vals = vals_at t row.entity } in
    let next : ChangeLists = change_set c row.entity change in
    let rest : All (HasEntityOf c) rows = λ k d lt. all (suc k) d (omega arith) in
    IsOrderly-entered n t next rows (HasEntities-change_set c next row.entity change rows refl rest) (IsOrderly-change_set n c row.entity change refl (all 0 row (omega arith)) orderly) e

-- the same entities, with the same opening
pub record HasSameLists (old new : ChangeLists) : Type 0 where
  pub opening : new.opening ≡ old.opening
  pub devices : length new.devices ≡ length old.devices
  pub links : length new.links ≡ length old.links

pub HasSameLists-entered : (n : ℕ) (t : Values) (c : ChangeLists) (rows : List Row) → HasSameLists c (entered n t c rows)
HasSameLists-entered n t c [] = record { opening = refl; devices = refl; links = refl }
HasSameLists-entered n t c (row ∷ rows) =
    let change : Change = record { version = n; vals = vals_at t row.entity } in
    let next : ChangeLists = change_set c row.entity change in
    let rest = HasSameLists-entered n t next rows in
    record {
      opening = rest.opening ∙ opening-change_set c row.entity change;
      devices = rest.devices ∙ devices-change_set c row.entity change;
      links = rest.links ∙ links-change_set c row.entity change;
    }

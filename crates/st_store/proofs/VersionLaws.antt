-- A target and its versions: rows that are merged as the next one.
use Rattle.std.proofs.Common.{◌≡◌, ℕ, zero, suc, ◌+◌, ◌≤◌, List, [], ◌∷◌, length, get_or, refl, sym, ap, ◌∙◌, subst, arith}
use Rattle.std.specs.Prelude.{Bool, true, false, ◌&&◌, nat_le, All, replicate, slice_index_or, if◌then◌else◌}
use Rattle.std.proofs.lemmas.Bool.Decides.{nat_tests}
use Rattle.std.proofs.lemmas.Grind.{common_steps}
use Rattle.std.proofs.lemmas.List.{length-replicate}
use mathlib.Core.Path.{fun_ext}
use Rattle.st_net.specs.declared.entity.Entity.{Entity}
use Rattle.st_net.specs.declared.entity.Entity.TheVariants.{Device, Link}
use Rattle.st_net.specs.declared.entity.Row.{Row}
use Rattle.st_net.specs.declared.entity.Vals.{Vals}
use Rattle.st_net.specs.declared.entity.Var.{Var}
use Rattle.st_net.specs.Entities.{is_same_entity, value_of, value_set}
use Rattle.st_net.specs.Groups.{Group}
use Rattle.st_net.specs.Merge.{target_with, merge_of}
use Rattle.st_net.proofs.Tests.{neither, at_most, more, at_most_is, more_is}
use Rattle.st_overlay.specs.Values.{Values, IsIn, IsRowIn, IsTableOf, Overlays, vals_at, vals_set, value_in, row_set, overlaid}
use Rattle.st_overlay.proofs.Alterations.{is_named}
use Rattle.st_store.specs.declared.change.Change.{Change}
use Rattle.st_store.specs.Changes.{ChangeLists, changes_of, vals_upto, vals_at_version, value_at, values_with, unchanged, entered, HasEntity, HasEntityOf, HasValuesOf, IsOrderly}
use Rattle.st_store.specs.Versions.{VersionsView, HasSameEntities, IsCurrent, MergesIf}
use Rattle.st_store.proofs.ChangeLaws.{vals_upto-beyond, IsOrderly-later}
use Rattle.st_store.proofs.EntryLaws.{vals_at_version-entered, IsOrderly-entered, HasSameLists-entered}

abbrev no_changes : List Change
no_changes = []

none_among : (n i : ℕ) → slice_index_or (replicate n no_changes) i no_changes ≡ no_changes
none_among zero i = refl
none_among (suc n) zero = refl
none_among (suc n) (suc i) = none_among n i

vals_at-vals_set_other : (t : Values) (at e : Entity) (vals : Vals) → is_same_entity at e ≡ false → vals_at (vals_set t at vals) e ≡ vals_at t e
vals_at-vals_set_other t (Device i) (Device j) vals other = grind (arith, nat_tests, common_steps)
vals_at-vals_set_other t (Link i) (Link j) vals other = grind (arith, nat_tests, common_steps)
vals_at-vals_set_other t (Device i) (Link j) vals other = refl
vals_at-vals_set_other t (Link i) (Device j) vals other = refl

-- an entity that no row is on keeps its values
vals_at-overlaid_other : (t : Values) (rows : List Row) (e : Entity) → is_named rows e ≡ false → vals_at (overlaid t rows) e ≡ vals_at t e
vals_at-overlaid_other t [] e none = refl
vals_at-overlaid_other t (row ∷ rows) e none =
    let apart = neither (is_same_entity row.entity e) (is_named rows e) none in
    vals_at-overlaid_other (row_set t row) rows e apart.1
    ∙ vals_at-vals_set_other t row.entity e (value_set row.entity (vals_at t row.entity) row.var row.value) apart.0

-- the lists have the entities that the target has, and so do the tables
pub HasEntity-current : (v : VersionsView) (e : Entity) → HasSameEntities v → IsIn v.target e → HasEntity v.changes e
HasEntity-current v (Device i) same here = let d = same.devices in omega (arith, d)
HasEntity-current v (Link i) same here = let l = same.links in omega (arith, l)

pub HasOpening-current : (v : VersionsView) (e : Entity) → HasSameEntities v → IsIn v.target e → IsIn v.changes.opening e
HasOpening-current v (Device i) same here = let d = same.opening_devices in omega (arith, d)
HasOpening-current v (Link i) same here = let l = same.opening_links in omega (arith, l)

pub HasEntities-current : (v : VersionsView) (rows : List Row) → HasSameEntities v → All (IsRowIn v.target) rows → All (HasEntityOf v.changes) rows
HasEntities-current v rows same all = λ k d lt. HasEntity-current v (get_or rows k d).entity same (all k d lt).0

IsIn-overlays : (t u : Values) (rows : List Row) (e : Entity) → Overlays t u rows → IsIn t e → IsIn u e
IsIn-overlays t u rows (Device i) over here = let d = over.devices in omega (arith, d)
IsIn-overlays t u rows (Link i) over here = let l = over.links in omega (arith, l)

pub HasValues-overlays : (t u : Values) (rows : List Row) → Overlays t u rows → All (IsRowIn t) rows → All (HasValuesOf u) rows
HasValues-overlays t u rows over all = λ k d lt. IsIn-overlays t u rows (get_or rows k d).entity over (all k d lt).0

-- beyond the last version the values are those of the last
pub value_at-latest : (v : VersionsView) → IsCurrent v → (n : ℕ) → v.version ≤ n → value_at v.changes n ≡ value_in v.target
value_at-latest v is n le = fun_ext (λ e. fun_ext (λ x. ap (λ (vals : Vals). value_of e vals x)
    (vals_upto-beyond v.version n (changes_of v.changes e) (vals_at v.changes.opening e) le (is.orderly e).within ∙ sym (is.current e))))

module _ (old : VersionsView) (table : Values) (rows : List Row) (is : IsCurrent old) (fits : All (IsRowIn old.target) rows) (merged : table ≡ overlaid old.target rows) where
  has : All (HasEntityOf old.changes) rows
  has = HasEntities-current old rows is.entities fits

  at_last : (v : ℕ) (e : Entity) → old.version ≤ v → vals_at_version old.changes v e ≡ vals_at old.target e
  at_last v e le = vals_upto-beyond old.version v (changes_of old.changes e) (vals_at old.changes.opening e) le (is.orderly e).within ∙ sym (is.current e)

  -- from the next version on the values are those of the new table
  from_next : (v : ℕ) (e : Entity) → old.version + 1 ≤ v → vals_at_version (entered (old.version + 1) table old.changes rows) v e ≡ vals_at table e
  from_next v e le =
      vals_at_version-entered (old.version + 1) table old.changes rows v e (HasEntities-current old rows is.entities fits)
      ∙ ap (λ (from : Bool). if is_named rows e && from then vals_at table e else vals_at_version old.changes v e) (at_most (old.version + 1) v le)
      ∙ by_name (is_named rows e) refl
    where
      by_name : (named : Bool) → is_named rows e ≡ named → (if named && true then vals_at table e else vals_at_version old.changes v e) ≡ vals_at table e
      by_name true name = refl
      by_name false name = at_last v e (omega arith) ∙ sym (vals_at-overlaid_other old.target rows e name) ∙ ap (λ (t : Values). vals_at t e) (sym merged)

  -- and before it they are as they were
  before_next : (v : ℕ) (e : Entity) → v ≤ old.version → vals_at_version (entered (old.version + 1) table old.changes rows) v e ≡ vals_at_version old.changes v e
  before_next v e le =
      vals_at_version-entered (old.version + 1) table old.changes rows v e (HasEntities-current old rows is.entities fits)
      ∙ ap (λ (from : Bool). if is_named rows e && from then vals_at table e else vals_at_version old.changes v e) (more (old.version + 1) v (omega arith))
      ∙ by_name (is_named rows e)
    where
      by_name : (named : Bool) → (if named && false then vals_at table e else vals_at_version old.changes v e) ≡ vals_at_version old.changes v e
      by_name true = refl
      by_name false = refl

  value_at-merged : Overlays old.target table rows → value_at (entered (old.version + 1) table old.changes rows) ≡ values_with (value_at old.changes) old.version rows
  value_at-merged over = fun_ext (λ v. by_version v (nat_le v old.version) refl)
    where
      by_version : (v : ℕ) (b : Bool) → nat_le v old.version ≡ b → value_at (entered (old.version + 1) table old.changes rows) v ≡ (if b then value_at old.changes v else target_with (value_at old.changes old.version) rows)
      by_version v true le = fun_ext (λ e. ap (value_of e) (before_next v e (at_most_is v old.version le)))
      by_version v false gt =
          fun_ext (λ e. ap (value_of e) (from_next v e (let lt = more_is v old.version gt in omega (arith, lt))))
          ∙ over.values
          ∙ ap (λ (target : Entity → Var → ℕ). target_with target rows) (sym (value_at-latest old is old.version (omega arith)))

  -- the rows are merged, and the versions before stay
  pub merges : (new : ChangeLists) → new ≡ entered (old.version + 1) table old.changes rows → Overlays old.target table rows → MergesIf true old (record { version = old.version + 1; target = table; changes = new }) rows
  merges new entered over = record {
    version = refl;
    target = over.values;
    values = ap value_at entered ∙ value_at-merged over;
    devices = over.devices;
    links = over.links;
    of = over.kept;
  }

  pub IsCurrent-merged : (new : ChangeLists) → new ≡ entered (old.version + 1) table old.changes rows → Overlays old.target table rows → IsCurrent (record { version = old.version + 1; target = table; changes = new })
  IsCurrent-merged new entered over =
      let same = HasSameLists-entered (old.version + 1) table old.changes rows in
      let entities = is.entities in
      rw entered (record {
        entities = record {
          opening_devices = ap (λ (t : Values). length t.devices) same.opening ∙ entities.opening_devices ∙ sym over.devices;
          opening_links = ap (λ (t : Values). length t.links) same.opening ∙ entities.opening_links ∙ sym over.links;
          devices = same.devices ∙ entities.devices ∙ sym over.devices;
          links = same.links ∙ entities.links ∙ sym over.links;
        };
        orderly = IsOrderly-entered (old.version + 1) table old.changes rows (HasEntities-current old rows is.entities fits) (λ e. IsOrderly-later old.version (old.version + 1) (changes_of old.changes e) (omega arith) (is.orderly e));
        current = λ e. sym (from_next (old.version + 1) e (omega arith));
      })

-- no entity has a change yet
no_changes_of : (g : Group) (opening : Values) (e : Entity) → changes_of (unchanged g opening) e ≡ no_changes
no_changes_of g opening (Device i) = none_among (length g.devices) i
no_changes_of g opening (Link i) = none_among (length g.links) i

in_order : IsOrderly 0 no_changes
in_order = record { ascending = λ i j d le lt. absurd (omega arith); within = λ k d lt. absurd (omega arith) }

-- the opening of a group
pub IsCurrent-opening : (g : Group) (t : Values) (c : ChangeLists) → IsTableOf g t → c ≡ unchanged g t → IsCurrent (record { version = 0; target = t; changes = c })
IsCurrent-opening g t c of is = rw is (record {
  entities = record {
    opening_devices = refl;
    opening_links = refl;
    devices = length-replicate (length g.devices) no_changes ∙ sym of.devices;
    links = length-replicate (length g.links) no_changes ∙ sym of.links;
  };
  orderly = λ e. subst (IsOrderly 0) (sym (no_changes_of g t e)) in_order;
  current = λ e. sym (ap (λ (changes : List Change). vals_upto 0 changes (vals_at t e)) (no_changes_of g t e));
})

pub value_at-opening : (g : Group) (t : Values) (c : ChangeLists) → value_in t ≡ merge_of g [] → c ≡ unchanged g t → value_at c ≡ (λ n. merge_of g [])
value_at-opening g t c opening is = ap value_at is ∙ fun_ext (λ n.
    fun_ext (λ e. ap (λ (changes : List Change). value_of e (vals_upto n changes (vals_at t e))) (no_changes_of g t e))
    ∙ opening)

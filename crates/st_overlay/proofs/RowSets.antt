-- One row set in a table, and in a target.
use Rattle.std.proofs.Common.{◌≡◌, ℕ, zero, suc, List, [], ◌∷◌, ◌++◌, length, get_or, set, Some, None, refl, ap, subst, sym, ◌∙◌, arith, length-set}
use Rattle.std.specs.Prelude.{Bool, true, false, ◌&&◌, if◌then◌else◌, unwrap_or}
use Rattle.std.proofs.lemmas.Bool.Decides.{nat_tests}
use Rattle.std.proofs.lemmas.Grind.{common_steps}
use mathlib.Core.Path.{fun_ext}
use Rattle.st_net.specs.declared.entity.Vals.{Vals}
use Rattle.st_net.specs.declared.entity.Row.{Row}
use Rattle.st_net.specs.declared.entity.Var.{Var}
use Rattle.st_net.specs.declared.entity.Var.TheVariants.{Power, Firmware, Config, Routing, LinkPower, Iface}
use Rattle.st_net.specs.declared.entity.Entity.{Entity}
use Rattle.st_net.specs.declared.entity.Entity.TheVariants.{Device, Link}
use Rattle.st_net.specs.Entities.{is_same_entity, is_same_var, is_var_of, value_of, value_set, device_value, device_value_set, link_value, link_value_set, vals_by}
use Rattle.st_net.specs.Merge.{first_of_two, is_on, row_on, target_with}
use Rattle.st_net.proofs.Tests.{same_entity}
use Rattle.st_net.proofs.MergeLaws.{first_of_two-assoc, first_of_two-none, unwrap_or-first_of_two}
use Rattle.st_overlay.specs.Values.{Values, IsIn, IsRowIn, vals_at, value_in, vals_set, row_set}

device_value-set : (vals : Vals) (at v : Var) (value : ℕ) → is_var_of (Device 0) at ≡ true → device_value (device_value_set vals at value) v ≡ (if is_same_var at v then value else device_value vals v)
device_value-set vals Power Power value has = refl
device_value-set vals Power _ value has = refl
device_value-set vals Firmware Firmware value has = refl
device_value-set vals Firmware _ value has = refl
device_value-set vals Config Config value has = refl
device_value-set vals Config _ value has = refl
device_value-set vals Routing Routing value has = refl
device_value-set vals Routing _ value has = refl
device_value-set vals LinkPower v value has = cc
device_value-set vals Iface v value has = cc

link_value-set : (vals : Vals) (at v : Var) (value : ℕ) → is_var_of (Link 0) at ≡ true → link_value (link_value_set vals at value) v ≡ (if is_same_var at v then value else link_value vals v)
link_value-set vals LinkPower LinkPower value has = refl
link_value-set vals LinkPower _ value has = refl
link_value-set vals Iface Iface value has = refl
link_value-set vals Iface _ value has = refl
link_value-set vals Power v value has = cc
link_value-set vals Firmware v value has = cc
link_value-set vals Config v value has = cc
link_value-set vals Routing v value has = cc

device_var : (i : ℕ) (v : Var) → is_var_of (Device i) v ≡ is_var_of (Device 0) v
device_var i Power = refl
device_var i _ = refl

link_var : (i : ℕ) (v : Var) → is_var_of (Link i) v ≡ is_var_of (Link 0) v
link_var i Power = refl
link_var i _ = refl

-- the variable that is set has the value, and the others theirs
value_of-value_set : (e : Entity) (vals : Vals) (at v : Var) (value : ℕ) → is_var_of e at ≡ true → value_of e (value_set e vals at value) v ≡ (if is_same_var at v then value else value_of e vals v)
value_of-value_set (Device i) vals at v value has = device_value-set vals at v value (sym (device_var i at) ∙ has)
value_of-value_set (Link i) vals at v value has = link_value-set vals at v value (sym (link_var i at) ∙ has)

-- setting a variable of values that are given by a function
pub value_set-vals_by : (e : Entity) (opening : Vals) (f : Var → ℕ) (at : Var) (value : ℕ) → value_set e (vals_by e opening f) at value ≡ vals_by e opening (λ v. unwrap_or (if is_same_var at v then Some value else None) (f v))
value_set-vals_by (Device i) opening f Power value = refl
value_set-vals_by (Device i) opening f _ value = refl
value_set-vals_by (Link i) opening f Power value = refl
value_set-vals_by (Link i) opening f _ value = refl

vals_at-vals_set : (t : Values) (at e : Entity) (vals : Vals) → IsIn t at → vals_at (vals_set t at vals) e ≡ (if is_same_entity at e then vals else vals_at t e)
vals_at-vals_set t (Device i) (Device j) vals here = grind (arith, nat_tests, common_steps)
vals_at-vals_set t (Link i) (Link j) vals here = grind (arith, nat_tests, common_steps)
vals_at-vals_set t (Device i) (Link j) vals here = refl
vals_at-vals_set t (Link i) (Device j) vals here = refl

chosen : (same : Bool) (value n : ℕ) → (if same then value else n) ≡ unwrap_or (if same then Some value else None) n
chosen true value n = refl
chosen false value n = refl

one_set : (at e : Entity) (vals here : Vals) (set v : Var) (value : ℕ) (same : Bool) → is_var_of at set ≡ true → (same ≡ true → at ≡ e) → (same ≡ true → vals ≡ here) → value_of e (if same then value_set at vals set value else here) v ≡ unwrap_or (if same && is_same_var set v then Some value else None) (value_of e here v)
one_set at e vals here set v value false has one is = refl
one_set at e vals here set v value true has one is =
    rw (is refl, one refl, value_of-value_set e here set v value (subst (λ (x : Entity). is_var_of x set ≡ true) (one refl) has)) (chosen (is_same_var set v) value (value_of e here v))

-- a row's variable has its value, and all else is as before
pub value_in-row_set : (t : Values) (row : Row) → IsRowIn t row → value_in (row_set t row) ≡ target_with (value_in t) (row ∷ [])
value_in-row_set t row here = fun_ext (λ e. fun_ext (λ v.
    rw (vals_at-vals_set t row.entity e (value_set row.entity (vals_at t row.entity) row.var row.value) here.0)
    (one_set row.entity e (vals_at t row.entity) (vals_at t e) row.var v row.value (is_same_entity row.entity e) here.1 (same_entity row.entity e) (λ same. ap (vals_at t) (same_entity row.entity e same)))))

row_on-push : (rows : List Row) (row : Row) (e : Entity) (v : Var) → row_on (rows ++ row ∷ []) e v ≡ first_of_two (row_on (row ∷ []) e v) (row_on rows e v)
row_on-push [] row e v = sym (first_of_two-none (row_on (row ∷ []) e v))
row_on-push (r ∷ rows) row e v = rw (row_on-push rows row e v) (first_of_two-assoc (row_on (row ∷ []) e v) (row_on rows e v) (if is_on r e v then Some r.value else None))

-- the rows so far, and then one more
pub target_with-push : (target : Entity → Var → ℕ) (rows : List Row) (row : Row) → target_with target (rows ++ row ∷ []) ≡ target_with (target_with target rows) (row ∷ [])
target_with-push target rows row = fun_ext (λ e. fun_ext (λ v. rw (row_on-push rows row e v) (unwrap_or-first_of_two (row_on (row ∷ []) e v) (row_on rows e v) (target e v))))

-- one row, and then the others
pub target_with-cons : (target : Entity → Var → ℕ) (row : Row) (rows : List Row) → target_with target (row ∷ rows) ≡ target_with (target_with target (row ∷ [])) rows
target_with-cons target row rows = fun_ext (λ e. fun_ext (λ v. unwrap_or-first_of_two (row_on rows e v) (if is_on row e v then Some row.value else None) (target e v)))

pub vals_set_devices : (t : Values) (e : Entity) (vals : Vals) → length (vals_set t e vals).devices ≡ length t.devices
vals_set_devices t (Device i) vals = length-set t.devices i vals
vals_set_devices t (Link i) vals = refl

pub vals_set_links : (t : Values) (e : Entity) (vals : Vals) → length (vals_set t e vals).links ≡ length t.links
vals_set_links t (Device i) vals = refl
vals_set_links t (Link i) vals = length-set t.links i vals

-- what a set leaves alone, at every place
get_or-set_kept : {X Y : Type 0} (f : X → Y) (xs : List X) (i j : ℕ) (x d : X) → f x ≡ f (get_or xs i d) → f (get_or (set xs i x) j d) ≡ f (get_or xs j d)
get_or-set_kept f [] i j x d same = refl
get_or-set_kept f (y ∷ ys) zero zero x d same = same
get_or-set_kept f (y ∷ ys) zero (suc j) x d same = refl
get_or-set_kept f (y ∷ ys) (suc i) zero x d same = refl
get_or-set_kept f (y ∷ ys) (suc i) (suc j) x d same = get_or-set_kept f ys i j x d same

link_v2 : (vals : Vals) (v : Var) (value : ℕ) → (link_value_set vals v value).v2 ≡ vals.v2
link_v2 vals Power value = refl
link_v2 vals _ value = refl

link_v3 : (vals : Vals) (v : Var) (value : ℕ) → (link_value_set vals v value).v3 ≡ vals.v3
link_v3 vals Power value = refl
link_v3 vals _ value = refl

-- a row leaves alone what is no variable of a link
pub row_set_v2 : (t : Values) (at : Entity) (v : Var) (value i : ℕ) → (vals_at (vals_set t at (value_set at (vals_at t at) v value)) (Link i)).v2 ≡ (vals_at t (Link i)).v2
row_set_v2 t (Device j) v value i = refl
row_set_v2 t (Link j) v value i = get_or-set_kept (λ (vals : Vals). vals.v2) t.links j i _ _ (link_v2 (vals_at t (Link j)) v value)

pub row_set_v3 : (t : Values) (at : Entity) (v : Var) (value i : ℕ) → (vals_at (vals_set t at (value_set at (vals_at t at) v value)) (Link i)).v3 ≡ (vals_at t (Link i)).v3
row_set_v3 t (Device j) v value i = refl
row_set_v3 t (Link j) v value i = get_or-set_kept (λ (vals : Vals). vals.v3) t.links j i _ _ (link_v3 (vals_at t (Link j)) v value)

-- what a list of rows has past its end
abbrev pub no_row : Row
no_row = record { entity = Device 0; var = Power; value = 0 }

-- Values in range: of rows that fit, of openings, and each variable of them.
use Rattle.std.proofs.Common.{◌≡◌, ℕ, zero, suc, ◌<◌, ◌^◌, List, [], ◌∷◌, length, Option, Some, None, refl, subst, arith}
use Rattle.std.specs.Prelude.{Bool, true, false, ◌==◌, nat_le, nat_lt, All, slice_index_or, if◌then◌else◌, unwrap_or}
use Rattle.std.proofs.lemmas.List.Elements.{All-head, All-tail}
use Rattle.st_net.specs.declared.entity.Entity.{Entity}
use Rattle.st_net.specs.declared.entity.Entity.TheVariants.{Device, Link}
use Rattle.st_net.specs.declared.entity.Row.{Row}
use Rattle.st_net.specs.declared.entity.Vals.{Vals}
use Rattle.st_net.specs.declared.entity.Var.{Var}
use Rattle.st_net.specs.declared.entity.Var.TheVariants.{Power, Firmware, Config, Routing, LinkPower, Iface}
use Rattle.st_net.specs.declared.topo.DeviceOpening.{DeviceOpening}
use Rattle.st_net.specs.declared.topo.LinkOpening.{LinkOpening}
use Rattle.st_net.specs.Entities.{is_same_entity, is_same_var, is_var_of, value_of, device_value, link_value, vals_by}
use Rattle.st_net.specs.Groups.{Group, IsSound, IsEntityOf, opening_of, are_device_vals, are_link_vals, AreDevices, AreLinks, no_device, no_link}
use Rattle.st_net.specs.Merge.{is_on, first_of_two, row_on, last_write}
use Rattle.st_net.specs.Ranges.{RowFits, is_device_value, is_link_value, is_in_range, are_in_range}
use Rattle.st_net.proofs.Tests.{both, four_true, same_entity}

-- values variable by variable

device_value_in : (vals : Vals) (v : Var) → (nat_le vals.v0 1 ≡ true) × (nat_lt vals.v1 (2 ^ 32) ≡ true) × (nat_lt vals.v2 (2 ^ 32) ≡ true) × (nat_le vals.v3 1 ≡ true) → is_var_of (Device 0) v ≡ true → is_device_value v (device_value vals v) ≡ true
device_value_in vals Power each own = each.0
device_value_in vals Firmware each own = each.1
device_value_in vals Config each own = each.2
device_value_in vals Routing each own = each.3
device_value_in vals LinkPower each own = cc
device_value_in vals Iface each own = cc

link_value_in : (vals : Vals) (v : Var) → (nat_le vals.v0 1 ≡ true) × (nat_lt vals.v1 (2 ^ 32) ≡ true) × ((vals.v2 == 0) ≡ true) × ((vals.v3 == 0) ≡ true) → is_var_of (Link 0) v ≡ true → is_link_value v (link_value vals v) ≡ true
link_value_in vals Power each own = cc
link_value_in vals Firmware each own = cc
link_value_in vals Config each own = cc
link_value_in vals Routing each own = cc
link_value_in vals LinkPower each own = each.0
link_value_in vals Iface each own = each.1

-- a number of the entity does not matter
own_device : (i : ℕ) (v : Var) → is_var_of (Device i) v ≡ true → is_var_of (Device 0) v ≡ true
own_device i Power own = refl
own_device i Firmware own = refl
own_device i Config own = refl
own_device i Routing own = refl
own_device i LinkPower own = cc
own_device i Iface own = cc

own_link : (i : ℕ) (v : Var) → is_var_of (Link i) v ≡ true → is_var_of (Link 0) v ≡ true
own_link i LinkPower own = refl
own_link i Iface own = refl
own_link i Power own = cc
own_link i Firmware own = cc
own_link i Config own = cc
own_link i Routing own = cc

-- of values in range each variable is in range
pub value_in_range : (e : Entity) (vals : Vals) (v : Var) → are_in_range e vals ≡ true → is_var_of e v ≡ true → is_in_range e v (value_of e vals v) ≡ true
value_in_range (Device i) vals v ranged own = device_value_in vals v (four_true (nat_le vals.v0 1) (nat_lt vals.v1 (2 ^ 32)) (nat_lt vals.v2 (2 ^ 32)) (nat_le vals.v3 1) ranged) (own_device i v own)
value_in_range (Link i) vals v ranged own = link_value_in vals v (four_true (nat_le vals.v0 1) (nat_lt vals.v1 (2 ^ 32)) (vals.v2 == 0) (vals.v3 == 0) ranged) (own_link i v own)

-- and values are in range where each variable is, and what a link has no variable for
pub by_in_range : (e : Entity) (rest : Vals) (value : Var → ℕ) → are_in_range e rest ≡ true → ((v : Var) → is_var_of e v ≡ true → is_in_range e v (value v) ≡ true) → are_in_range e (vals_by e rest value) ≡ true
by_in_range (Device i) rest value ranged each = rw (each Power refl, each Firmware refl, each Config refl, each Routing refl) refl
by_in_range (Link i) rest value ranged each =
    let parts = four_true (nat_le rest.v0 1) (nat_lt rest.v1 (2 ^ 32)) (rest.v2 == 0) (rest.v3 == 0) ranged in
    rw (each LinkPower refl, each Iface refl, parts.2, parts.3) refl

-- what rows write

-- what may be written to an entity's variable is in its range
abbrev pub MayWrite : Entity → Var → Option ℕ → Type 0
MayWrite e v None = Unit {0}
MayWrite e v (Some x) = is_in_range e v x ≡ true

same_var : (v w : Var) → is_same_var v w ≡ true → v ≡ w
same_var Power Power same = refl
same_var Firmware Firmware same = refl
same_var Config Config same = refl
same_var Routing Routing same = refl
same_var LinkPower LinkPower same = refl
same_var Iface Iface same = refl
same_var _ _ same = cc

first_may : (e : Entity) (v : Var) (a b : Option ℕ) → MayWrite e v a → MayWrite e v b → MayWrite e v (first_of_two a b)
first_may e v (Some x) b first second = first
first_may e v None b first second = second

row_may : (g : Group) (row : Row) (e : Entity) (v : Var) (b : Bool) → is_on row e v ≡ b → RowFits g row → MayWrite e v (if b then Some row.value else None)
row_may g row e v true on fits =
    let parts = both (is_same_entity row.entity e) (is_same_var row.var v) on in
    let at : is_in_range e row.var row.value ≡ true = subst (λ (x : Entity). is_in_range x row.var row.value ≡ true) (same_entity row.entity e parts.0) fits.range in
    subst (λ (w : Var). is_in_range e w row.value ≡ true) (same_var row.var v parts.1) at
row_may g row e v false on fits = tt

pub rows_may : (g : Group) (rows : List Row) (e : Entity) (v : Var) → All (RowFits g) rows → MayWrite e v (row_on rows e v)
rows_may g [] e v fit = tt
rows_may g (row ∷ rows) e v fit =
    first_may e v (row_on rows e v) (if is_on row e v then Some row.value else None)
    (rows_may g rows e v (All-tail (RowFits g) row rows fit))
    (row_may g row e v (is_on row e v) refl (All-head (RowFits g) row rows fit))

pub last_may : (g : Group) (ps : List (List Row)) (e : Entity) (v : Var) → All (All (RowFits g)) ps → MayWrite e v (last_write ps e v)
last_may g [] e v fit = tt
last_may g (rows ∷ later) e v fit =
    first_may e v (last_write later e v) (row_on rows e v)
    (last_may g later e v (All-tail (All (RowFits g)) rows later fit))
    (rows_may g rows e v (All-head (All (RowFits g)) rows later fit))

pub written_in_range : (e : Entity) (v : Var) (o : Option ℕ) (before : ℕ) → MayWrite e v o → is_in_range e v before ≡ true → is_in_range e v (unwrap_or o before) ≡ true
written_in_range e v None before may ranged = ranged
written_in_range e v (Some x) before may ranged = may

-- openings

device_at : (ds : List DeviceOpening) (i : ℕ) → AreDevices ds → i < length ds → are_device_vals (slice_index_or ds i no_device).vals ≡ true
device_at [] i are low = absurd (omega arith)
device_at (d ∷ ds) zero are low = are.0.vals
device_at (d ∷ ds) (suc i) are low = device_at ds i are.1 (omega arith)

link_at : (n : ℕ) (links : List LinkOpening) (i : ℕ) → AreLinks n links → i < length links → are_link_vals (slice_index_or links i no_link).vals ≡ true
link_at n [] i are low = absurd (omega arith)
link_at n (l ∷ ls) zero are low = are.0.vals
link_at n (l ∷ ls) (suc i) are low = link_at n ls i are.1 (omega arith)

pub opening_in_range : (g : Group) (e : Entity) → IsSound g → IsEntityOf g e → are_in_range e (opening_of g e) ≡ true
opening_in_range g (Device i) sound own = device_at g.devices i sound.devices own
opening_in_range g (Link i) sound own = link_at (length g.devices) g.links i sound.links own

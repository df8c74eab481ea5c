-- What rows alter, looked at entity by entity.
use Rattle.std.proofs.Common.{◌≡◌, ℕ, List, [], ◌∷◌, ◌++◌, Option, Some, None, refl, ap, sym, ◌∙◌, arith}
use Rattle.std.specs.Prelude.{Bool, true, false, not, ◌&&◌, ◌||◌, if◌then◌else◌, unwrap_or}
use mathlib.Core.Path.{fun_ext}
use Rattle.st_net.specs.declared.entity.Vals.{Vals}
use Rattle.st_net.specs.declared.entity.Row.{Row}
use Rattle.st_net.specs.declared.entity.Var.{Var}
use Rattle.st_net.specs.declared.entity.Entity.{Entity}
use Rattle.st_net.specs.declared.entity.Entity.TheVariants.{Device, Link}
use Rattle.st_net.specs.Entities.{is_same_entity, is_same_var, is_same_vals, value_set, vals_by}
use Rattle.st_net.specs.Groups.{Group, opening_of}
use Rattle.st_net.specs.Merge.{row_on, target_with, vals_in, alters}
use Rattle.st_net.specs.Sets.{Marks, IsMarkIn, MarksOf, set_with}
use Rattle.st_net.proofs.Tests.{same_entity, same_vals_self, neither}
use Rattle.st_overlay.specs.Values.{Values, IsIn, vals_at, value_in, IsTableOf}
use Rattle.st_overlay.proofs.RowSets.{value_set-vals_by, target_with-push}

-- whether one of the rows is on the entity
abbrev pub is_named : List Row → Entity → Bool
is_named [] e = false
is_named (row ∷ rows) e = is_same_entity row.entity e || is_named rows e

-- setting a row's variable in an entity's values, where the row is on it
with_row : (e : Entity) (opening : Vals) (target : Entity → Var → ℕ) (row : Row) (same : Bool) → (if same then value_set e (vals_by e opening (target e)) row.var row.value else vals_by e opening (target e)) ≡ vals_by e opening (λ v. unwrap_or (if same && is_same_var row.var v then Some row.value else None) (target e v))
with_row e opening target row true = value_set-vals_by e opening (target e) row.var row.value
with_row e opening target row false = refl

-- an entity's values with one row more
pub with_next : (e : Entity) (opening : Vals) (target : Entity → Var → ℕ) (rows : List Row) (row : Row) → vals_by e opening (target_with target (rows ++ row ∷ []) e) ≡ (if is_same_entity row.entity e then value_set e (vals_by e opening (target_with target rows e)) row.var row.value else vals_by e opening (target_with target rows e))
with_next e opening target rows row =
    ap (λ (after : Entity → Var → ℕ). vals_by e opening (after e)) (target_with-push target rows row)
    ∙ sym (with_row e opening (target_with target rows) row (is_same_entity row.entity e))

pub with_same : (e : Entity) (opening vals : Vals) (target : Entity → Var → ℕ) (rows : List Row) (row : Row) → vals ≡ vals_by e opening (target_with target rows e) → is_same_entity row.entity e ≡ true → value_set e vals row.var row.value ≡ vals_by e opening (target_with target (rows ++ row ∷ []) e)
with_same e opening vals target rows row so_far same = rw (with_next e opening target rows row, same, so_far) refl

pub with_other : (e : Entity) (opening vals : Vals) (target : Entity → Var → ℕ) (rows : List Row) (row : Row) → vals ≡ vals_by e opening (target_with target rows e) → is_same_entity row.entity e ≡ false → vals ≡ vals_by e opening (target_with target (rows ++ row ∷ []) e)
with_other e opening vals target rows row so_far other = rw (with_next e opening target rows row, other) so_far

by_rest : (e : Entity) (opening vals : Vals) (f was : Var → ℕ) → vals_by e opening was ≡ vals → vals_by e opening f ≡ vals_by e vals f
by_rest (Device i) opening vals f was is = refl
by_rest (Link i) opening vals f was is = rw (ap (λ (vals : Vals). vals.v2) is, ap (λ (vals : Vals). vals.v3) is) refl

-- whether rows alter an entity, by a table of the group
pub alters_by_table : (g : Group) (t : Values) (rows : List Row) (e : Entity) → IsTableOf g t → alters g (value_in t) rows e ≡ not (is_same_vals (vals_by e (vals_at t e) (target_with (value_in t) rows e)) (vals_at t e))
alters_by_table g t rows e of =
    ap (λ (vals : Vals). not (is_same_vals vals (vals_in g (value_in t) e))) (by_rest e (opening_of g e) (vals_at t e) (target_with (value_in t) rows e) (value_in t e) (of.values e))
    ∙ ap (λ (vals : Vals). not (is_same_vals (vals_by e (vals_at t e) (target_with (value_in t) rows e)) vals)) (of.values e)

-- and by the values with the rows and without them
pub alters_by_vals : (g : Group) (t : Values) (rows : List Row) (e : Entity) (after before : Vals) (same b : Bool) → IsTableOf g t → after ≡ vals_by e (vals_at t e) (target_with (value_in t) rows e) → before ≡ vals_at t e → same ≡ is_same_vals after before → same ≡ b → alters g (value_in t) rows e ≡ not b
alters_by_vals g t rows e after before same b of with_rows without is was = alters_by_table g t rows e of ∙ rw (← with_rows, ← without, ← is, was) refl

none_on : (rows : List Row) (e : Entity) (v : Var) → is_named rows e ≡ false → row_on rows e v ≡ None
none_on [] e v none = refl
none_on (row ∷ rows) e v none =
    let apart = neither (is_same_entity row.entity e) (is_named rows e) none in
    rw (none_on rows e v apart.1, apart.0) refl

-- no row is on the entity: it is not altered
unaltered : (g : Group) (target : Entity → Var → ℕ) (rows : List Row) (e : Entity) → is_named rows e ≡ false → alters g target rows e ≡ false
unaltered g target rows e none =
    let same : target_with target rows e ≡ target e = fun_ext (λ v. ap (λ (value : Option ℕ). unwrap_or value (target e v)) (none_on rows e v none)) in
    ap (λ (f : Var → ℕ). not (is_same_vals (vals_by e (opening_of g e) f) (vals_in g target e))) same
    ∙ ap not (same_vals_self (vals_in g target e))

-- the entities of some rows that all the rows alter
abbrev pub altered_among : Group → (Entity → Var → ℕ) → List Row → List Row → Entity → Bool
altered_among g target rows some = λ e. is_named some e && alters g target rows e

among_all : (named altered : Bool) → (named ≡ false → altered ≡ false) → (named && altered) ≡ altered
among_all true altered is = refl
among_all false altered is = sym (is refl)

pub altered_among_all : (g : Group) (target : Entity → Var → ℕ) (rows : List Row) → altered_among g target rows rows ≡ alters g target rows
altered_among_all g target rows = fun_ext (λ e. among_all (is_named rows e) (alters g target rows e) (unaltered g target rows e))

is_named-push : (rows : List Row) (row : Row) (e : Entity) → is_named (rows ++ row ∷ []) e ≡ (is_named rows e || is_same_entity row.entity e)
is_named-push [] row e = or_false (is_same_entity row.entity e)
  where
    or_false : (b : Bool) → (b || false) ≡ (false || b)
    or_false true = refl
    or_false false = refl
is_named-push (r ∷ rows) row e = rw (is_named-push rows row e) (or_or (is_same_entity r.entity e) (is_named rows e) (is_same_entity row.entity e))
  where
    or_or : (a b c : Bool) → (a || (b || c)) ≡ ((a || b) || c)
    or_or true b c = refl
    or_or false b c = refl

with_one : (named same altered : Bool) → (same ≡ true → altered ≡ true) → (if same then true else named && altered) ≡ ((named || same) && altered)
with_one true true altered is = sym (is refl)
with_one false true altered is = sym (is refl)
with_one true false altered is = refl
with_one false false altered is = refl

without_one : (named same altered : Bool) → (same ≡ true → altered ≡ false) → (named && altered) ≡ ((named || same) && altered)
without_one true true altered is = refl
without_one false true altered is = sym (is refl)
without_one true false altered is = refl
without_one false false altered is = refl

alters_same : (g : Group) (target : Entity → Var → ℕ) (rows : List Row) (at e : Entity) (b : Bool) → alters g target rows at ≡ b → is_same_entity at e ≡ true → alters g target rows e ≡ b
alters_same g target rows at e b is same = ap (alters g target rows) (sym (same_entity at e same)) ∙ is

-- one row more is looked at, whose entity is altered or not
pub altered_next : (g : Group) (target : Entity → Var → ℕ) (rows some : List Row) (row : Row) (set next : Entity → Bool) → set ≡ altered_among g target rows some → next ≡ set_with set row.entity → alters g target rows row.entity ≡ true → next ≡ altered_among g target rows (some ++ row ∷ [])
altered_next g target rows some row set next so_far put is = rw (put, so_far) (fun_ext (λ e. rw (is_named-push some row e) (with_one (is_named some e) (is_same_entity row.entity e) (alters g target rows e) (alters_same g target rows row.entity e true is))))

pub unaltered_next : (g : Group) (target : Entity → Var → ℕ) (rows some : List Row) (row : Row) (set : Entity → Bool) → set ≡ altered_among g target rows some → alters g target rows row.entity ≡ false → set ≡ altered_among g target rows (some ++ row ∷ [])
unaltered_next g target rows some row set so_far is = rw so_far (fun_ext (λ e. rw (is_named-push some row e) (without_one (is_named some e) (is_same_entity row.entity e) (alters g target rows e) (alters_same g target rows row.entity e false is))))

-- an entity of the table has a mark
pub is_mark_in : (g : Group) (t : Values) (s : Marks) (e : Entity) → IsTableOf g t → MarksOf g s → IsIn t e → IsMarkIn s e
is_mark_in g t s (Device i) of marks here = omega (arith, of.devices, marks.devices)
is_mark_in g t s (Link i) of marks here = omega (arith, of.links, marks.links)
